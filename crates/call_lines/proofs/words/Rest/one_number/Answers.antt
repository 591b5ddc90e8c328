use Rattle.call_lines.specs.Stops.{One}
use Rattle.call_lines.proofs.Reading.{behind_number, handed}
use Rattle.call_lines.proofs.words.Rest.one_number.Goals as goal

pub returns-in_err-number : goal.returns-in_err-number
returns-in_err-number c = handed (One _ _) _ c.from_residual.ensures.1 (c.in_err-number.ensures 0)

pub returns-in_err-end : goal.returns-in_err-end
returns-in_err-end c =
    handed (One _ _) _ c.from_residual-in_err-end.ensures.1
    (behind_number _ _ _ _ c.in_ok-number.ensures 0 _ c.in_err-end.ensures)
