-- Records over their widths: packing and unpacking undo each other.
use Rattle.std.proofs.Common.{◌≡◌, ℕ, suc, ◌+◌, ◌^◌, ◌<◌, ◌≤◌, List, [], ◌∷◌, ◌++◌, length, take, drop, sym, refl, ap, ◌∙◌, ap₂, arith}
use Rattle.std.proofs.ByRecursion.{All-drop, All-take}
use Rattle.std.proofs.lemmas.List.{append_assoc, drop_at, drop-take, length-append, length-drop, length-take-le, take-append-drop, take_at, take-take}
use Rattle.std.specs.Int.Digits.{AllBelowBase, number_from_digits}
use Rattle.sheet.specs.Numbers.{big_endian}
use Rattle.sheet.specs.Records.{packed, size, unpacked}
use Rattle.sheet.proofs.BigEndian.{big_endian_number, length_big_endian, number_big_endian}

-- there is a value for each width, and it fits
abbrev pub Narrow : List ℕ → List ℕ → Type 0
Narrow [] [] = Unit {0}
Narrow [] (value ∷ values) = ⊥
Narrow (width ∷ widths) [] = ⊥
Narrow (width ∷ widths) (value ∷ values) = (value < 256 ^ width) × Narrow widths values

pub length_packed : (widths values : List ℕ) → length values ≡ length widths → length (packed widths values) ≡ size widths
length_packed [] values long = refl
length_packed (width ∷ widths) [] long = absurd (omega arith)
length_packed (width ∷ widths) (value ∷ values) long =
    length-append (big_endian width value) (packed widths values)
    ∙ ap₂ ◌+◌ (length_big_endian width value) (length_packed widths values (omega arith))

pub unpacked_packed : (widths values : List ℕ) (rest : List ℕ) → Narrow widths values
    → unpacked widths (packed widths values ++ rest) ≡ values
unpacked_packed [] [] rest narrow = refl
unpacked_packed [] (value ∷ values) rest narrow = absurd narrow
unpacked_packed (width ∷ widths) [] rest narrow = absurd narrow
unpacked_packed (width ∷ widths) (value ∷ values) rest narrow =
    let first = big_endian width value in
    let others = packed widths values in
    let long = length_big_endian width value in
    let front : take width (first ++ others ++ rest) ≡ first =
    ap (take width) (append_assoc first others rest) ∙ take_at first (others ++ rest) width long in
    let back : drop width (first ++ others ++ rest) ≡ others ++ rest =
    ap (drop width) (append_assoc first others rest) ∙ drop_at first (others ++ rest) width long in
    ap₂ ◌∷◌
    (ap (number_from_digits 256) front ∙ number_big_endian width value narrow.0)
    (ap (unpacked widths) back ∙ unpacked_packed widths values rest narrow.1)

pub length_unpacked : (widths bytes : List ℕ) → length (unpacked widths bytes) ≡ length widths
length_unpacked [] bytes = refl
length_unpacked (width ∷ widths) bytes = ap suc (length_unpacked widths (drop width bytes))

pub take_take_drop : (m n : ℕ) (bytes : List ℕ) → take m bytes ++ take n (drop m bytes) ≡ take (m + n) bytes
take_take_drop m n bytes =
    ap₂ ◌++◌ (sym (take-take m (m + n) bytes (omega arith))) (sym (drop-take m n bytes))
    ∙ take-append-drop m (take (m + n) bytes)

pub packed_unpacked : (widths bytes : List ℕ) → size widths ≤ length bytes → AllBelowBase 256 bytes
    → packed widths (unpacked widths bytes) ≡ take (size widths) bytes
packed_unpacked [] bytes long under = refl
packed_unpacked (width ∷ widths) bytes long under =
    let short : width ≤ length bytes = omega arith in
    let front : big_endian width (number_from_digits 256 (take width bytes)) ≡ take width bytes =
    big_endian_number width (take width bytes) (length-take-le width bytes short)
    (All-take (λ b. b < 256) width bytes under) in
    let left : size widths ≤ length (drop width bytes) = omega (arith, length-drop width bytes) in
    let back = packed_unpacked widths (drop width bytes) left (All-drop (λ b. b < 256) width bytes under) in
    ap₂ ◌++◌ front back ∙ take_take_drop width (size widths) bytes
