use Rattle.call_lines.proofs.Reading.{past_end}
use Rattle.call_lines.proofs.words.Rest.end.Goals as goal

pub returns-in_default : goal.returns-in_default
returns-in_default c = past_end _ _ _ c.first_word-word.ensures c.column.ensures c.in_default.not-End
