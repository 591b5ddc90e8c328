-- The rules of the head say that the sheet is laid out in order, and no more.
use Rattle.std.proofs.Common.{◌≡◌, ℕ, true, List, ◌++◌, Some, None, ◌∙◌, arith}
use Rattle.std.proofs.lemmas.Bool.Decides.{nat_tests}
use Rattle.plan.specs.Rules.{first_broken, keeps}
use Rattle.plan.specs.declared.refusals.Fault.{Fault}
use Rattle.plan.proofs.Ruling.{broken_first, broken_second}
use Rattle.sheet.specs.Laid.{Laid}
use Rattle.sheet.specs.Verdict.{extent_rules, format_rules, head_rules, pair_rules}

pub laid_from_rules : (bytes : List ℕ) → keeps (head_rules bytes) ≡ true → Laid bytes
unfolding head_rules format_rules pair_rules extent_rules
laid_from_rules bytes kept =
    record {
      head_whole = grind (arith, nat_tests);
      format = grind (arith, nat_tests);
      sections = grind (arith, nat_tests);
      settings_offset = grind (arith, nat_tests);
      settings_extent = grind (arith, nat_tests);
      segments_offset = grind (arith, nat_tests);
      segments_whole = grind (arith, nat_tests);
      segments_few = grind (arith, nat_tests);
      closures_offset = grind (arith, nat_tests);
      closures_whole = grind (arith, nat_tests);
      closures_few = grind (arith, nat_tests);
      end = grind (arith, nat_tests);
    }

pub rules_from_laid : (bytes : List ℕ) → Laid bytes → keeps (head_rules bytes) ≡ true
unfolding head_rules format_rules pair_rules extent_rules
rules_from_laid bytes laid = grind (arith, nat_tests)

-- the first fault of the head by its parts
module _ (bytes : List ℕ) where
  pub format_found : (f : Fault) → first_broken (format_rules bytes) ≡ Some f → first_broken (head_rules bytes) ≡ Some f
  unfolding head_rules
  format_found f found = broken_first (format_rules bytes) (pair_rules bytes ++ extent_rules bytes) f found

  pub order_found : first_broken (format_rules bytes) ≡ None → (f : Fault) → first_broken (pair_rules bytes) ≡ Some f
      → first_broken (head_rules bytes) ≡ Some f
  unfolding head_rules
  order_found format f found =
      broken_second (format_rules bytes) (pair_rules bytes ++ extent_rules bytes) format
      ∙ broken_first (pair_rules bytes) (extent_rules bytes) f found

  pub extents_decide : first_broken (format_rules bytes) ≡ None → first_broken (pair_rules bytes) ≡ None
      → first_broken (head_rules bytes) ≡ first_broken (extent_rules bytes)
  unfolding head_rules
  extents_decide format order =
      broken_second (format_rules bytes) (pair_rules bytes ++ extent_rules bytes) format
      ∙ broken_second (pair_rules bytes) (extent_rules bytes) order
