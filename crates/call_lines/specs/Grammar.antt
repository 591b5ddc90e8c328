-- Which bytes spell which call.
use Rattle.std.specs.Prelude.{◌≡◌, ℕ, ◌+◌, ◌-◌, ◌*◌, ◌<◌, ◌≤◌, List, [], ◌∷◌, ◌++◌, length}
use Rattle.std.specs.List.{AllByRecursion}
use Rattle.call_lines.specs.declared.calls.LineCall.{LineCall}
use Rattle.call_lines.specs.declared.calls.LineCall.TheVariants as call

abbrev pub space : ℕ
space = 32

abbrev pub most_digits : ℕ
most_digits = 5

abbrev pub most_number : ℕ
most_number = 65535

-- the byte of a decimal digit
abbrev pub Digit : ℕ → Type 0
Digit byte = (48 ≤ byte) × (byte ≤ 57)

-- the number that digits write behind digits that write n
abbrev pub read_on : ℕ → List ℕ → ℕ
read_on n [] = n
read_on n (digit ∷ digits) = read_on (n * 10 + (digit - 48)) digits

-- one to five digits write a number of 16 bits
pub record Number (word : List ℕ) (n : ℕ) : Type 0 where
  pub digits : AllByRecursion Digit word
  pub some : 0 < length word
  pub few : length word ≤ most_digits
  pub value : read_on 0 word ≡ n
  pub small : n ≤ most_number

-- the letter of a call, R, C, W, A or L, and its numbers in order
abbrev pub letter : LineCall → ℕ
letter (call.Request origin destination slot) = 82
letter (call.Confirm number) = 67
letter (call.Withdraw number) = 87
letter (call.Arrive number) = 65
letter call.List = 76

abbrev pub numbers : LineCall → List ℕ
numbers (call.Request origin destination slot) = origin ∷ destination ∷ slot ∷ []
numbers (call.Confirm number) = number ∷ []
numbers (call.Withdraw number) = number ∷ []
numbers (call.Arrive number) = number ∷ []
numbers call.List = []

-- the numbers, each behind one space, and nothing else
abbrev pub Spaced : List ℕ → List ℕ → Type 0
Spaced [] bytes = bytes ≡ []
Spaced (n ∷ ns) bytes =
    (word : List ℕ) × (rest : List ℕ) × Number word n × Spaced ns rest × (bytes ≡ space ∷ (word ++ rest))

-- the letter and behind it the numbers
abbrev pub Spells : List ℕ → LineCall → Type 0
Spells line c = (rest : List ℕ) × (line ≡ letter c ∷ rest) × Spaced (numbers c) rest
