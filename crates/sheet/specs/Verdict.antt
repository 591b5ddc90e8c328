-- What is checked of a sheet, in order, and what the check answers.
use Rattle.std.specs.Prelude.{◌≡◌, ℕ, ◌+◌, ◌*◌, ◌%◌, Bool, ◌&&◌, List, [], ◌∷◌, ◌++◌, length, Some, None, Option, Ok, Err, Result, ◌==◌, nat_le}
use Rattle.plan.specs.Content.{Content, Fits}
use Rattle.plan.specs.Limits.{most_closures, most_segments}
use Rattle.plan.specs.Ranges.{closure_rules, segment_rules, settings_rules}
use Rattle.plan.specs.Refusals.{refusal_number}
use Rattle.plan.specs.Rules.{Rule, first_broken, rule, saying}
use Rattle.plan.specs.declared.parts.Closure.{Closure}
use Rattle.plan.specs.declared.parts.Segment.{Segment}
use Rattle.plan.specs.declared.parts.Setting.{Setting}
use Rattle.plan.specs.declared.parts.Setting.TheVariants as setting
use Rattle.plan.specs.declared.parts.Settings.{Settings}
use Rattle.plan.specs.declared.refusals.Fault.{Fault}
use Rattle.plan.specs.declared.refusals.Refusal.{Refusal}
use Rattle.plan.specs.declared.refusals.Refusal.TheVariants as refusal
use Rattle.plan.specs.declared.refusals.Section.{Section}
use Rattle.plan.specs.declared.refusals.Section.TheVariants as section
use Rattle.sheet.specs.Format.{closures_pair, decode, encode, extent, offset, segments_pair, settings_pair}
use Rattle.sheet.specs.Numbers.{field}

abbrev pub fault : Section → ℕ → Refusal → Fault
fault met place r = record { refusal = r; section = met; place = place }

-- a fault of the head
abbrev pub head_fault : ℕ → Refusal → Fault
head_fault = fault section.Outside

unfoldable pub format_rules : List ℕ → List (Rule Fault)
format_rules bytes =
    rule (nat_le 26 (length bytes)) (head_fault 0 refusal.SheetTooShort)
    ∷ rule (field 1 0 bytes == 1) (head_fault 0 refusal.FormatUnknown)
    ∷ rule (field 1 1 bytes == 3) (head_fault 1 refusal.FormatUnknown)
    ∷ []

-- where a section ends, by its pair
abbrev pub ends : ℕ → List ℕ → ℕ
ends pair bytes = offset pair bytes + extent pair bytes

-- the sections follow one another from the head to the end of the sheet
unfoldable pub pair_rules : List ℕ → List (Rule Fault)
pair_rules bytes =
    rule (offset settings_pair bytes == 26) (head_fault settings_pair refusal.SectionMisplaced)
    ∷ rule (offset segments_pair bytes == ends settings_pair bytes) (head_fault segments_pair refusal.SectionMisplaced)
    ∷ rule (offset closures_pair bytes == ends segments_pair bytes && ends closures_pair bytes == length bytes)
    (head_fault closures_pair refusal.SectionMisplaced)
    ∷ []

-- whole records of a size, and no more than so many
abbrev pub holds_records : ℕ → ℕ → ℕ → Bool
holds_records most size extent = extent % size == 0 && nat_le extent (most * size)

unfoldable pub extent_rules : List ℕ → List (Rule Fault)
extent_rules bytes =
    rule (extent settings_pair bytes == 7) (head_fault settings_pair refusal.SectionLengthWrong)
    ∷ rule (holds_records most_segments 6 (extent segments_pair bytes)) (head_fault segments_pair refusal.SectionLengthWrong)
    ∷ rule (holds_records most_closures 5 (extent closures_pair bytes)) (head_fault closures_pair refusal.SectionLengthWrong)
    ∷ []

-- where in its section a setting stands
abbrev pub setting_place : Setting → ℕ
setting_place setting.SlotLength = 0
setting_place setting.Density = 2
setting_place setting.Horizon = 4
setting_place setting.Junctions = 6

abbrev pub setting_fault : ℕ → Setting → Fault
setting_fault start s = fault section.Settings (start + setting_place s) refusal.SettingOutOfRange

-- the rules of records of a size in a section, one record after the other from a place on
abbrev pub record_rules : {A : Type 0} → (A → List (Rule Refusal)) → Section → ℕ → ℕ → List A → List (Rule Fault)
record_rules rules met size place [] = []
record_rules rules met size place (a ∷ rest) =
    saying (fault met place) (rules a) ++ record_rules rules met size (place + size) rest

-- the rules of a record in a plan with these settings and so many segments
abbrev pub PartRules : Type 0 → Type 0
PartRules A = Settings → ℕ → A → List (Rule Refusal)

unfoldable pub segments_rules : Settings → ℕ → List Segment → List (Rule Fault)
segments_rules s = record_rules (segment_rules s) section.Segments 6

unfoldable pub closures_rules : Settings → ℕ → ℕ → List Closure → List (Rule Fault)
closures_rules s segments = record_rules (closure_rules s segments) section.Closures 5

unfoldable pub content_rules : List ℕ → Content → List (Rule Fault)
content_rules bytes c =
    saying (setting_fault (offset settings_pair bytes)) (settings_rules c.settings)
    ++ (segments_rules c.settings (offset segments_pair bytes) c.segments
    ++ closures_rules c.settings (length c.segments) (offset closures_pair bytes) c.closures)

unfoldable pub head_rules : List ℕ → List (Rule Fault)
head_rules bytes = format_rules bytes ++ (pair_rules bytes ++ extent_rules bytes)

-- the first fault of a sheet, or none
unfoldable pub sheet_fault : List ℕ → Option Fault
sheet_fault bytes = first_broken (head_rules bytes ++ content_rules bytes (decode bytes))

-- a check that passes, or says the fault
abbrev pub passed : Option Fault → Result (Unit {0}) Fault
passed None = Ok tt
passed (Some f) = Err f

-- what a sheet means: a plan, or its first fault
pub data Verdict : Type 0 where
  accepted : Content → Verdict
  refused : Fault → Verdict

abbrev pub judged : Option Fault → Content → Verdict
judged None c = accepted c
judged (Some f) c = refused f

abbrev pub verdict : List ℕ → Verdict
verdict bytes = judged (sheet_fault bytes) (decode bytes)

-- the bytes are the sheet of some plan
abbrev pub SheetOfAPlan : List ℕ → Type 0
SheetOfAPlan bytes = (c : Content) × Fits c × (encode c ≡ bytes)

-- a fault as one number: the refusal's times 2^32 and the place, or 0
abbrev pub fault_code : Option Fault → ℕ
fault_code None = 0
fault_code (Some f) = refusal_number f.refusal * 4294967296 + f.place
