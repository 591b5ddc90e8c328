-- What reading a sheet without a fault comes to.
use Rattle.std.proofs.Common.{◌≡◌, ℕ, List, is_some, Some, None, Err, sym, ap, ◌∙◌, subst, arith}
use Rattle.std.specs.Int.Digits.{AllBelowBase}
use Rattle.plan.specs.Content.{Begins, Content, Fits}
use Rattle.plan.specs.Ranges.{settings_fit, settings_rules}
use Rattle.plan.specs.Rules.{first_broken}
use Rattle.plan.specs.declared.refusals.Fault.{Fault}
use Rattle.plan.specs.declared.refusals.PlanError.{PlanError}
use Rattle.plan.specs.declared.refusals.PlanError.TheVariants as error
use Rattle.plan.proofs.Ruling.{none_broken}
use Rattle.sheet.specs.declared.sections.Sections.{Sections}
use Rattle.sheet.specs.Format.{decode, encode}
use Rattle.sheet.specs.Reads.{Reads}
use Rattle.sheet.specs.Splits.{Split, sections_content}
use Rattle.sheet.specs.Verdict.{SheetOfAPlan, accepted, judged, refused, sheet_fault, verdict}
use Rattle.sheet.proofs.Faults.{decode_sections}
use Rattle.sheet.proofs.RoundTrips.{encode_decode, encode_faultless, faultless_fits, faultless_laid}

pub refused_by : (bytes : List ℕ) (f : Fault) → sheet_fault bytes ≡ Some f → verdict bytes ≡ refused f
refused_by bytes f found = ap (λ o. judged o (decode bytes)) found

-- the sheets without a fault are those of plans
pub faultless_sheet : (bytes : List ℕ) → AllBelowBase 256 bytes → sheet_fault bytes ≡ None → SheetOfAPlan bytes
faultless_sheet bytes under none =
    (decode bytes, faultless_fits bytes none, encode_decode bytes (faultless_laid bytes none) under)

pub sheet_faultless : (bytes : List ℕ) → SheetOfAPlan bytes → sheet_fault bytes ≡ None
sheet_faultless bytes sheet = ap sheet_fault (sym sheet.2) ∙ encode_faultless sheet.0 sheet.1

module _ (bytes : List ℕ) (s : Sections) (split : Split bytes s) (none : sheet_fault bytes ≡ None) where
  pub sections_fit : Fits (sections_content s)
  sections_fit = subst Fits (decode_sections bytes s split) (faultless_fits bytes none)

  settings_sound : first_broken (settings_rules s.settings) ≡ None
  unfolding settings_fit
  settings_sound = none_broken (settings_rules s.settings) sections_fit.settings_in_range

  -- the plan is not begun only for want of memory
  pub begin_failed : (e : PlanError) → Begins s.settings (Err e) → Reads bytes (Err e)
  begin_failed (error.Refused f) begins =
      let some = begins.0 in
      let sound = ap is_some settings_sound in
      absurd (let z : ◌≡◌ {A = ℕ} 0 1 = cc in omega arith)
  begin_failed error.NoMemory begins = ap (λ o. judged o (decode bytes)) none

  pub accepted_as : (c : Content) → c ≡ sections_content s → (verdict bytes ≡ accepted c) × (encode c ≡ bytes)
  accepted_as c same =
      let decoded : decode bytes ≡ c = decode_sections bytes s split ∙ sym same in (
        ap (λ o. judged o (decode bytes)) none ∙ ap accepted decoded,
        ap encode (sym decoded) ∙ encode_decode bytes (faultless_laid bytes none) split.bytes_fit,
      )
