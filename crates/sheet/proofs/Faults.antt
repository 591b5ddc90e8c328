-- The first fault of a sheet by its parts: the head, the settings, the segments, the closures.
use Rattle.std.proofs.Common.{◌≡◌, ℕ, ◌+◌, ◌/◌, List, ◌++◌, length, Some, None, Option, Ok, Err, sym, refl, ap, ◌∙◌, arith}
use Rattle.std.specs.Option.{option_map}
use Rattle.std.specs.Result.{result_err}
use Rattle.plan.specs.Ranges.{settings_rules}
use Rattle.plan.specs.Rules.{Rule, first_broken, saying}
use Rattle.plan.specs.declared.parts.Setting.{Setting}
use Rattle.plan.specs.declared.refusals.Fault.{Fault}
use Rattle.plan.proofs.Ruling.{all_kept, broken_first, broken_saying, broken_second}
use Rattle.sheet.specs.declared.sections.Sections.{Sections}
use Rattle.sheet.specs.Format.{closure_layout, closures_pair, decode, extent, offset, segment_layout, segments_pair}
use Rattle.sheet.specs.Laid.{Laid}
use Rattle.sheet.specs.Records.{told_all}
use Rattle.sheet.specs.Splits.{Split, sections_content}
use Rattle.sheet.specs.Verdict.{closures_rules, content_rules, head_rules, passed, segments_rules, setting_fault, sheet_fault}
use Rattle.sheet.proofs.Heads.{laid_from_rules}
use Rattle.sheet.proofs.RoundTrips.{length_segments_part, segments_count}

pub head_found : (bytes : List ℕ) (f : Fault) → first_broken (head_rules bytes) ≡ Some f → sheet_fault bytes ≡ Some f
unfolding sheet_fault
head_found bytes f found = broken_first (head_rules bytes) _ f found

-- a check that passes, or says the fault, by its rules
pub passed_none : (o : Option Fault) → passed o ≡ Ok tt → o ≡ None
passed_none None ok = refl
passed_none (Some f) ok = absurd (let z : ◌≡◌ {A = ℕ} 0 1 = cc in omega arith)

pub passed_some : (o : Option Fault) (f : Fault) → passed o ≡ Err f → o ≡ Some f
passed_some None f err = absurd (let z : ◌≡◌ {A = ℕ} 0 1 = cc in omega arith)
passed_some (Some g) f err = cc

pub passed_err : (o : Option Fault) → result_err (passed o) ≡ o
passed_err None = refl
passed_err (Some f) = refl

module _ (bytes : List ℕ) (s : Sections) (split : Split bytes s) where
  laid : Laid bytes
  laid = laid_from_rules bytes (all_kept (head_rules bytes) split.in_order)

  long : length s.segments.now ≡ extent segments_pair bytes
  unfolding laid
  long = ap length split.segments ∙ length_segments_part bytes laid

  count : length (decode bytes).segments ≡ length s.segments.now / 6
  unfolding laid
  count = let all = segments_count bytes laid in omega (arith, all, long)

  start : offset closures_pair bytes ≡ 33 + length s.segments.now
  unfolding laid
  start = laid.closures_offset ∙ ap (λ n. 33 + n) (sym long)

  -- the rules of the sections, by the parts of the sheet
  settings_part : List (Rule Fault)
  settings_part = saying (setting_fault 26) (settings_rules s.settings)

  segments_part : List (Rule Fault)
  segments_part = segments_rules s.settings 33 (told_all segment_layout s.segments.now)

  closures_part : List (Rule Fault)
  closures_part =
      closures_rules s.settings (length s.segments.now / 6) (33 + length s.segments.now)
      (told_all closure_layout s.closures.now)

  contents : sheet_fault bytes ≡ first_broken (settings_part ++ (segments_part ++ closures_part))
  unfolding sheet_fault content_rules decode laid settings_part segments_part closures_part
  contents =
      broken_second (head_rules bytes) (content_rules bytes (decode bytes)) split.in_order
      ∙ (λ i. first_broken (saying (setting_fault (laid.settings_offset i)) (settings_rules (sym split.settings i))
      ++ (segments_rules (sym split.settings i) (laid.segments_offset i) (told_all segment_layout (sym split.segments i))
      ++ closures_rules (sym split.settings i) (count i) (start i) (told_all closure_layout (sym split.closures i)))))

  pub setting_found : (x : Setting) → first_broken (settings_rules s.settings) ≡ Some x
      → sheet_fault bytes ≡ Some (setting_fault 26 x)
  unfolding settings_part
  setting_found x found =
      contents
      ∙ broken_first settings_part (segments_part ++ closures_part) (setting_fault 26 x)
      (broken_saying (setting_fault 26) (settings_rules s.settings) ∙ ap (option_map (setting_fault 26)) found)

  settings_sound : first_broken (settings_rules s.settings) ≡ None
      → sheet_fault bytes ≡ first_broken (segments_part ++ closures_part)
  unfolding settings_part
  settings_sound none =
      contents
      ∙ broken_second settings_part (segments_part ++ closures_part)
      (broken_saying (setting_fault 26) (settings_rules s.settings) ∙ ap (option_map (setting_fault 26)) none)

  pub segment_found : (f : Fault) → first_broken (settings_rules s.settings) ≡ None
      → first_broken (segments_rules s.settings 33 (told_all segment_layout s.segments.now)) ≡ Some f
      → sheet_fault bytes ≡ Some f
  unfolding segments_part
  segment_found f none found = settings_sound none ∙ broken_first segments_part closures_part f found

  pub closures_decide : first_broken (settings_rules s.settings) ≡ None
      → first_broken (segments_rules s.settings 33 (told_all segment_layout s.segments.now)) ≡ None
      → sheet_fault bytes
      ≡ first_broken (closures_rules s.settings (length s.segments.now / 6) (33 + length s.segments.now)
      (told_all closure_layout s.closures.now))
  unfolding segments_part closures_part
  closures_decide none sound = settings_sound none ∙ broken_second segments_part closures_part sound

  pub decode_sections : decode bytes ≡ sections_content s
  unfolding decode
  decode_sections =
      λ i. record {
        settings = sym split.settings i;
        segments = told_all segment_layout (sym split.segments i);
        closures = told_all closure_layout (sym split.closures i);
      }
