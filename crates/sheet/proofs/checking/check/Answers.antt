use Rattle.std.proofs.Common.{◌≡◌, ℕ, sym, ap, ◌∙◌, arith}
use Rattle.std.specs.Result.{result_err}
use Rattle.sheet.proofs.Faults.{head_found, passed_err}
use Rattle.sheet.proofs.Readings.{faultless_sheet, sheet_faultless}
use Rattle.sheet.proofs.checking.check.Goals as goal

pub returns-in-Err : goal.returns-in-Err
returns-in-Err c =
    let bytes = c.args.bytes.now in
    let found = sym (head_found bytes c.in-Err.fault c.in-Err.ensures) in
    record {
      first = found;
      accepts = λ none. absurd (let z : ◌≡◌ {A = ℕ} 0 1 = cc in omega arith);
      accepted = λ sheet. found ∙ sheet_faultless bytes sheet;
    }

pub returns-in-Ok : goal.returns-in-Ok
returns-in-Ok c =
    let bytes = c.args.bytes.now in
    let split = c.in-Ok.ensures in
    let found = c.err.ensures.value ∙ ap result_err (c.check_sections.ensures bytes split) ∙ passed_err _ in
    record {
      first = found;
      accepts = λ none. faultless_sheet bytes split.bytes_fit (sym found ∙ none);
      accepted = λ sheet. found ∙ sheet_faultless bytes sheet;
    }
