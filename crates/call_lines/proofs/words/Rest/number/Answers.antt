use Rattle.std.proofs.Common.{◌+◌, ap, ◌∙◌}
use Rattle.call_lines.specs.Stops.{Takes}
use Rattle.call_lines.proofs.Reading.{handed, no_digit, too_large}
use Rattle.call_lines.proofs.words.Rest.number.Goals as goal

pub returns-in_err-rest : goal.returns-in_err-rest
returns-in_err-rest c = handed (Takes _ _) _ c.from_residual.ensures.1 c.in_err-rest.ensures

pub returns-in_default : goal.returns-in_default
returns-in_default c =
    no_digit _ _ c.in_ok-rest.rest c.in_ok-rest.ensures _ c.first_word-word.ensures c.column.ensures
    c.in_default.not-Digits

pub returns-in_err-number : goal.returns-in_err-number
returns-in_err-number c =
    let word = c.in-Digits.ensures in
    let value = c.in_err-number.ensures in
    handed (Takes _ _) _ c.from_residual-in_err-number.ensures.1
    (too_large _ _ c.in_ok-rest.rest c.in_ok-rest.ensures c.in-Digits.digits.now _ value.0 word.1
    (value.1 ∙ ap (λ k. k + value.0) word.0) value.2)
