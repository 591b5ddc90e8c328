-- What parsing a line answers.
use Rattle.std.specs.Prelude.{◌≡◌, ℕ, ◌+◌, ◌-◌, ◌≤◌, List, ◌++◌, length, take, Ok, Err, Result}
use Rattle.call_lines.specs.Grammar.{Spells}
use Rattle.call_lines.specs.declared.calls.LineCall.{LineCall}

-- some line that begins with the bytes spells a call
abbrev pub Continues : List ℕ → Type 0
Continues bytes = (rest : List ℕ) × (c : LineCall) × Spells (bytes ++ rest) c

-- the line spells no call; the bytes before the column, from 1, can be continued to a line that does, and those up to
-- the column cannot; where the column is one past the end, bytes are missing
pub record Breaks (line : List ℕ) (column : ℕ) : Type 0 where
  pub none : (c : LineCall) → Spells line c → ⊥
  pub from_one : 1 ≤ column
  pub within : column ≤ length line + 1
  pub before : Continues (take (column - 1) line)
  pub here : column ≤ length line → Continues (take column line) → ⊥

abbrev pub Parses : List ℕ → Result LineCall ℕ → Type 0
Parses line (Ok c) = Spells line c
Parses line (Err column) = Breaks line column

-- one byte more than the longest line that spells a call has
abbrev pub deciding : ℕ
deciding = 20

-- the answer is right, no other is, and it is right for every line that begins with the same bytes, so many
pub record Answers (count : ℕ) (line : List ℕ) (answer : Result LineCall ℕ) : Type 0 where
  pub parses : Parses line answer
  pub alone : (other : Result LineCall ℕ) → Parses line other → other ≡ answer
  pub enough : (other : List ℕ) → take count other ≡ take count line → Parses other answer
