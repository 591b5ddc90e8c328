-- The part of a line behind its letter, which is to hold so many numbers, and where it breaks the form.
use Rattle.std.specs.Prelude.{◌≡◌, ℕ, suc, ◌+◌, ◌<◌, ◌≤◌, List, [], ◌∷◌, ◌++◌, length, take, Ok, Err, MatchResult, Result}
use Rattle.call_lines.specs.Grammar.{Number, Spaced, most_digits, most_number, read_on, space}
use Rattle.call_lines.specs.Words.{NoDigit}
use Rattle.call_lines.specs.declared.words.Rest.{Rest}

-- some bytes that begin so are so many spaced numbers
abbrev pub GoesOn : ℕ → List ℕ → Type 0
GoesOn count bytes = (rest : List ℕ) × (ns : List ℕ) × (length ns ≡ count) × Spaced ns (bytes ++ rest)

-- the bytes are not so many spaced numbers; those before the place, from 0, can be continued to such, and those with
-- the byte there cannot
pub record Stops (count : ℕ) (bytes : List ℕ) (place : ℕ) : Type 0 where
  pub none : (ns : List ℕ) → length ns ≡ count → Spaced ns bytes → ⊥
  pub within : place ≤ length bytes
  pub before : GoesOn count (take place bytes)
  pub here : place < length bytes → GoesOn count (take (suc place) bytes) → ⊥

-- a column, of a rest that begins at a column
abbrev pub StopsAt : ℕ → List ℕ → ℕ → ℕ → Type 0
StopsAt count bytes start column = (place : ℕ) × (column ≡ start + place) × Stops count bytes place

-- what reading the value of digits answers: the number, or the column of the digit that passes a limit
pub record Passes (digits : List ℕ) (place : ℕ) : Type 0 where
  pub within : place < length digits
  pub before : Number (take place digits) (read_on 0 (take place digits))
  pub passed : place < most_digits → most_number < read_on 0 (take (suc place) digits)

abbrev pub Valued : List ℕ → ℕ → Result ℕ ℕ → Type 0
Valued digits start (Ok n) = Number digits n
Valued digits start (Err column) = (place : ℕ) × (column ≡ start + place) × Passes digits place

-- a space, and what is left behind it
pub record SpacedRest (bytes : List ℕ) (start : ℕ) (after : Rest) : Type 0 where
  pub joined : bytes ≡ space ∷ after.bytes.now
  pub column : after.column ≡ start + 1

abbrev pub Spaces : List ℕ → ℕ → Result Rest ℕ → Type 0
Spaces bytes start (Ok after) = SpacedRest bytes start after
Spaces bytes start (Err column) = (more : ℕ) → StopsAt (suc more) bytes start column

-- a number behind a space, and what is left behind it
pub record Taken (bytes : List ℕ) (start n : ℕ) (after : Rest) : Type 0 where
  pub word : List ℕ
  pub number : Number word n
  pub joined : bytes ≡ space ∷ (word ++ after.bytes.now)
  pub whole : NoDigit after.bytes.now
  pub column : after.column ≡ start + suc (length word)
  pub same_end : after.column + length after.bytes.now ≡ start + length bytes

abbrev pub Takes : List ℕ → ℕ → Result (ℕ × Rest) ℕ → Type 0
Takes bytes start (Ok taken) = Taken bytes start taken.0 taken.1
Takes bytes start (Err column) = (more : ℕ) → StopsAt (suc more) bytes start column

-- the numbers in what is told, and nothing behind them; or where bytes that are to have so many break the form
abbrev pub Reads : {X : Type 0} → ℕ → (X → List ℕ) → List ℕ → ℕ → Result X ℕ → Type 0
Reads count numbers bytes start told =
    MatchResult told (λ x. Spaced (numbers x) bytes) (λ column. StopsAt count bytes start column)

abbrev pub Ends : List ℕ → ℕ → Result (Unit {0}) ℕ → Type 0
Ends = Reads 0 (λ _. [])

abbrev pub One : List ℕ → ℕ → Result ℕ ℕ → Type 0
One = Reads 1 (λ n. n ∷ [])

abbrev pub Three : List ℕ → ℕ → Result (ℕ × ℕ × ℕ) ℕ → Type 0
Three = Reads 3 (λ ns. ns.0 ∷ ns.1 ∷ ns.2 ∷ [])
