-- Records of numbers, over their widths.
use Rattle.std.specs.Prelude.{ℕ, zero, suc, ◌+◌, ◌/◌, List, [], ◌∷◌, ◌++◌, map, length, take, drop}
use Rattle.std.specs.Int.Digits.{number_from_digits}
use Rattle.std.specs.List.{flat_map}
use Rattle.sheet.specs.Numbers.{big_endian}

-- how many bytes numbers of these widths take together
abbrev pub size : List ℕ → ℕ
size [] = 0
size (width ∷ widths) = width + size widths

-- the bytes of a record: each value in its width
abbrev pub packed : List ℕ → List ℕ → List ℕ
packed [] values = []
packed (width ∷ widths) [] = []
packed (width ∷ widths) (value ∷ values) = big_endian width value ++ packed widths values

-- the values of a record that has these bytes
abbrev pub unpacked : List ℕ → List ℕ → List ℕ
unpacked [] bytes = []
unpacked (width ∷ widths) bytes = number_from_digits 256 (take width bytes) ∷ unpacked widths (drop width bytes)

-- how something is written as a record: the widths, its values, and what has given values
pub record Layout (A : Type 0) : Type 0 where
  pub widths : List ℕ
  pub values : A → List ℕ
  pub made : List ℕ → A

abbrev pub written : {A : Type 0} → Layout A → A → List ℕ
written layout a = packed layout.widths (layout.values a)

abbrev pub told : {A : Type 0} → Layout A → List ℕ → A
told layout bytes = layout.made (unpacked layout.widths bytes)

-- bytes cut into so many rows of a width, and into as many as there are
abbrev pub rows_by : ℕ → ℕ → List ℕ → List (List ℕ)
rows_by zero width bytes = []
rows_by (suc count) width bytes = take width bytes ∷ rows_by count width (drop width bytes)

unfoldable pub rows : ℕ → List ℕ → List (List ℕ)
rows width bytes = rows_by (length bytes / width) width bytes

-- records one after the other
abbrev pub written_all : {A : Type 0} → Layout A → List A → List ℕ
written_all layout = flat_map (written layout)

abbrev pub told_all : {A : Type 0} → Layout A → List ℕ → List A
told_all layout bytes = map (told layout) (rows (size layout.widths) bytes)
