use Rattle.call_lines.specs.Stops.{Three}
use Rattle.call_lines.proofs.Reading.{behind_number, handed}
use Rattle.call_lines.proofs.words.Rest.three_numbers.Goals as goal

pub returns-in_err-first : goal.returns-in_err-first
returns-in_err-first c = handed (Three _ _) _ c.from_residual.ensures.1 (c.in_err-first.ensures 2)

pub returns-in_err-second : goal.returns-in_err-second
returns-in_err-second c =
    handed (Three _ _) _ c.from_residual-in_err-second.ensures.1
    (behind_number _ _ _ _ c.in_ok-first.ensures 2 _ (c.in_err-second.ensures 1))

pub returns-in_err-third : goal.returns-in_err-third
returns-in_err-third c =
    handed (Three _ _) _ c.from_residual-in_err-third.ensures.1
    (behind_number _ _ _ _ c.in_ok-first.ensures 2 _
    (behind_number _ _ _ _ c.in_ok-second.ensures 1 _ c.in_err-third.ensures))
