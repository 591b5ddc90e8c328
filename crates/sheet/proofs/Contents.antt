-- The rules of the sections are the ranges of a plan.
use Rattle.std.proofs.Common.{◌≡◌, ℕ, ◌+◌, ◌≤◌, true, List, [], ◌∷◌, length, Some, None, Option, sym, refl, ap, ◌∙◌}
use Rattle.std.proofs.lemmas.Bool.{and_from, and_parts}
use Rattle.std.specs.Option.{option_map}
use Rattle.plan.specs.Content.{Content, Fits}
use Rattle.plan.specs.Limits.{most_closures, most_segments}
use Rattle.plan.specs.Ranges.{closure_rules, closures_fit, segment_rules, segments_fit, settings_fit, settings_rules}
use Rattle.plan.specs.Rules.{Rule, every, first_broken, keeps, saying}
use Rattle.plan.specs.declared.refusals.Fault.{Fault}
use Rattle.plan.specs.declared.refusals.Refusal.{Refusal}
use Rattle.plan.specs.declared.refusals.Section.{Section}
use Rattle.plan.specs.declared.refusals.Section.TheVariants as section
use Rattle.plan.proofs.Ruling.{broken_first, broken_saying, broken_second, keeps_append, keeps_parts, keeps_saying}
use Rattle.sheet.specs.Format.{closures_pair, offset, segments_pair, settings_pair}
use Rattle.sheet.specs.Nexts.{Takes}
use Rattle.sheet.specs.Records.{Layout, size, told_all}
use Rattle.sheet.specs.Verdict.{closures_rules, content_rules, fault, record_rules, segments_rules, setting_fault}

module _ {A : Type 0} (rules : A → List (Rule Refusal)) (met : Section) (size : ℕ) where
  records_keep : (place : ℕ) (items : List A) → every (λ a. keeps (rules a)) items ≡ true
      → keeps (record_rules rules met size place items) ≡ true
  records_keep place [] fit = refl
  records_keep place (a ∷ items) fit =
      let parts = and_parts (keeps (rules a)) (every (λ b. keeps (rules b)) items) fit in
      keeps_append (saying (fault met place) (rules a)) _
      (keeps_saying (fault met place) (rules a) ∙ parts.0)
      (records_keep (place + size) items parts.1)

  records_fit : (place : ℕ) (items : List A) → keeps (record_rules rules met size place items) ≡ true
      → every (λ a. keeps (rules a)) items ≡ true
  records_fit place [] kept = refl
  records_fit place (a ∷ items) kept =
      let parts = keeps_parts (saying (fault met place) (rules a)) _ kept in
      and_from (keeps (rules a)) (every (λ b. keeps (rules b)) items)
      (sym (keeps_saying (fault met place) (rules a)) ∙ parts.0)
      (records_fit (place + size) items parts.1)

-- records of a layout, one after the other from a place on: the first decides where it is at fault, and the others where
-- it is not
module _ {A : Type 0} (layout : Layout A) (rules : A → List (Rule Refusal)) (met : Section) where
  abbrev decided : ℕ → List ℕ → Option Fault
  decided place bytes = first_broken (record_rules rules met (size layout.widths) place (told_all layout bytes))

  pub next_broken : (place : ℕ) (bytes : List ℕ) (a : A) (rest : List ℕ) (r : Refusal)
      → Takes layout bytes (Some a) rest → first_broken (rules a) ≡ Some r
      → decided place bytes ≡ Some (fault met place r)
  next_broken place bytes a rest r next broken =
      ap (λ items. first_broken (record_rules rules met (size layout.widths) place items)) next.1
      ∙ broken_first (saying (fault met place) (rules a)) _ (fault met place r)
      (broken_saying (fault met place) (rules a) ∙ ap (option_map (fault met place)) broken)

  pub next_sound : (place : ℕ) (bytes : List ℕ) (a : A) (rest : List ℕ)
      → Takes layout bytes (Some a) rest → first_broken (rules a) ≡ None
      → decided place bytes ≡ decided (place + size layout.widths) rest
  next_sound place bytes a rest next none =
      ap (λ items. first_broken (record_rules rules met (size layout.widths) place items)) next.1
      ∙ broken_second (saying (fault met place) (rules a)) _
      (broken_saying (fault met place) (rules a) ∙ ap (option_map (fault met place)) none)

  pub none_left : (place : ℕ) (bytes : List ℕ) → told_all layout bytes ≡ [] → decided place bytes ≡ None
  none_left place bytes none =
      ap (λ items. first_broken (record_rules rules met (size layout.widths) place items)) none

pub content_keeps : (bytes : List ℕ) (c : Content) → Fits c → keeps (content_rules bytes c) ≡ true
unfolding content_rules segments_rules closures_rules settings_fit segments_fit closures_fit
content_keeps bytes c fits =
    let start = offset settings_pair bytes in
    keeps_append (saying (setting_fault start) (settings_rules c.settings)) _
    (keeps_saying (setting_fault start) (settings_rules c.settings) ∙ fits.settings_in_range)
    (keeps_append (record_rules (segment_rules c.settings) section.Segments 6 (offset segments_pair bytes) c.segments) _
    (records_keep (segment_rules c.settings) section.Segments 6 (offset segments_pair bytes) c.segments fits.segments_in_range)
    (records_keep (closure_rules c.settings (length c.segments)) section.Closures 5 (offset closures_pair bytes) c.closures
    fits.closures_in_range))

pub content_fits : (bytes : List ℕ) (c : Content) → keeps (content_rules bytes c) ≡ true
    → length c.segments ≤ most_segments → length c.closures ≤ most_closures → Fits c
unfolding content_rules segments_rules closures_rules settings_fit segments_fit closures_fit
content_fits bytes c kept segments closures =
    let start = offset settings_pair bytes in
    let first = keeps_parts (saying (setting_fault start) (settings_rules c.settings)) _ kept in
    let second =
    keeps_parts (record_rules (segment_rules c.settings) section.Segments 6 (offset segments_pair bytes) c.segments) _ first.1 in
    record {
      settings_in_range = sym (keeps_saying (setting_fault start) (settings_rules c.settings)) ∙ first.0;
      segments_in_range =
          records_fit (segment_rules c.settings) section.Segments 6 (offset segments_pair bytes) c.segments second.0;
      closures_in_range =
          records_fit (closure_rules c.settings (length c.segments)) section.Closures 5 (offset closures_pair bytes) c.closures
          second.1;
      few_segments = segments;
      few_closures = closures;
    }
