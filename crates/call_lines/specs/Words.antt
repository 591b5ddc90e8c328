-- The word that the rest of a line begins with.
use Rattle.std.specs.Prelude.{◌≡◌, ℕ, ◌<◌, ◌≤◌, List, [], ◌∷◌, ◌++◌, length, take, drop}
use Rattle.std.specs.List.{AllByRecursion}
use Rattle.call_lines.specs.Grammar.{Digit}
use Rattle.call_lines.specs.declared.words.Word.{Word}
use Rattle.call_lines.specs.declared.words.Word.TheVariants.{Letter, Digits, End}

-- the column of a word
abbrev pub column_of : Word → ℕ
column_of (Letter byte column) = column
column_of (Digits digits column) = column
column_of (End column) = column

-- no digit comes first
abbrev pub NoDigit : List ℕ → Type 0
NoDigit [] = Unit {0}
NoDigit (byte ∷ rest) = Digit byte → ⊥

-- so many digits come first, and no digit behind them
pub record Front (bytes : List ℕ) (count : ℕ) : Type 0 where
  pub within : count ≤ length bytes
  pub all : AllByRecursion Digit (take count bytes)
  pub whole : NoDigit (drop count bytes)

-- the longest run of digits in front
pub record Run (bytes digits : List ℕ) : Type 0 where
  pub all : AllByRecursion Digit digits
  pub some : 0 < length digits
  pub rest : List ℕ
  pub joined : bytes ≡ digits ++ rest
  pub whole : NoDigit rest

abbrev pub Begins : List ℕ → ℕ → Word → Type 0
Begins bytes column (Letter byte place) =
    (place ≡ column) × (Digit byte → ⊥) × ((rest : List ℕ) × (bytes ≡ byte ∷ rest))
Begins bytes column (Digits digits place) = (place ≡ column) × Run bytes digits.now
Begins bytes column (End place) = (place ≡ column) × (bytes ≡ [])
