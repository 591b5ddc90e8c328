-- A sheet by its sections, or the first fault of its head.
use Rattle.std.specs.Prelude.{◌≡◌, ℕ, ◌≤◌, List, length, Some, None, Ok, Err, Result}
use Rattle.std.specs.Int.Digits.{AllBelowBase}
use Rattle.plan.specs.Content.{Content}
use Rattle.plan.specs.Rules.{first_broken}
use Rattle.plan.specs.declared.refusals.Fault.{Fault}
use Rattle.sheet.specs.declared.sections.Sections.{Sections}
use Rattle.sheet.specs.Format.{closures_in, closures_pair, section, segments_in, segments_pair, settings_layout, settings_pair}
use Rattle.sheet.specs.Records.{told}
use Rattle.sheet.specs.Verdict.{head_rules}

pub record Split (bytes : List ℕ) (s : Sections) : Type 0 where
  pub in_order : first_broken (head_rules bytes) ≡ None
  pub settings : s.settings ≡ told settings_layout (section settings_pair bytes)
  pub segments : s.segments.now ≡ section segments_pair bytes
  pub closures : s.closures.now ≡ section closures_pair bytes
  pub few_segments : length s.segments.now ≤ 768
  pub few_closures : length s.closures.now ≤ 80
  pub bytes_fit : AllBelowBase 256 bytes

abbrev pub Splits : List ℕ → Result Sections Fault → Type 0
Splits bytes (Ok s) = Split bytes s
Splits bytes (Err f) = first_broken (head_rules bytes) ≡ Some f

-- what the parts say
abbrev pub sections_content : Sections → Content
sections_content s = record {
  settings = s.settings;
  segments = segments_in s.segments.now;
  closures = closures_in s.closures.now;
}
