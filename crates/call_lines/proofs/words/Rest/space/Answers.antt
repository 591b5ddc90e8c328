use Rattle.std.proofs.Common.{rules}
use Rattle.call_lines.proofs.Reading.{no_space}
use Rattle.call_lines.proofs.words.Rest.space.Goals as goal
use Rattle.call_lines.proofs.words.Rest.space.Goals.{in_default-via-in-Letter+in_default, in_default-via-in_default}

pub returns-in_default : goal.returns-in_default
returns-in_default c =
    no_space _ _ _ c.first_word-word.ensures c.column.ensures (λ k is.
    elim c.in_default.branch [
      | in_default-via-in-Letter+in_default w ↦ w.in_default.field-0-test.1 (rw is)
      | in_default-via-in_default w ↦ search rules
    ])
