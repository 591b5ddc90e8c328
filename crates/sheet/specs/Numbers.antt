-- Big-endian numbers, over the width.
use Rattle.std.specs.Prelude.{ℕ, zero, suc, ◌/◌, ◌%◌, List, [], ◌∷◌, ◌++◌, take, drop}
use Rattle.std.specs.Int.Digits.{number_from_digits}

-- the bytes of n in so many bytes, the highest first
abbrev pub big_endian : ℕ → ℕ → List ℕ
big_endian zero n = []
big_endian (suc width) n = big_endian width (n / 256) ++ (n % 256 ∷ [])

-- the number that so many bytes write, from a place on
abbrev pub field : ℕ → ℕ → List ℕ → ℕ
field width place bytes = number_from_digits 256 (take width (drop place bytes))
