-- Big-endian numbers over the width: writing and reading undo each other.
use Rattle.std.proofs.Common.{◌≡◌, ℕ, zero, suc, ◌+◌, ◌*◌, ◌/◌, ◌%◌, ◌^◌, ◌<◌, List, [], ◌∷◌, ◌++◌, length, get_or, take, sym, refl, ap, ◌∙◌, ap₂, pow-suc, add-one, arith}
use Rattle.std.proofs.lemmas.Int.Digits.{number_push}
use Rattle.std.proofs.ByRecursion.{All-get_or, All-take}
use Rattle.std.proofs.lemmas.List.{length_push, length-take-le, nil_from_length, take_all, take_more}
use Rattle.std.specs.Int.Digits.{AllBelowBase, number_from_digits}
use Rattle.sheet.specs.Numbers.{big_endian}

pub length_big_endian : (width n : ℕ) → length (big_endian width n) ≡ width
length_big_endian zero n = refl
length_big_endian (suc width) n =
    length_push (big_endian width (n / 256)) (n % 256)
    ∙ ap (λ k. k + 1) (length_big_endian width (n / 256))
    ∙ add-one width

-- reading back what was written
pub number_big_endian : (width n : ℕ) → n < 256 ^ width → number_from_digits 256 (big_endian width n) ≡ n
number_big_endian zero n small = omega arith
number_big_endian (suc width) n small =
    let room : n < 256 ^ width * 256 = rw (← pow-suc 256 width) small in
    let whole : n / 256 < 256 ^ width = omega arith in
    let front = number_big_endian width (n / 256) whole in
    let push = number_push 256 (big_endian width (n / 256)) (n % 256) in
    omega (arith, front, push)

-- writing again what was read
pub big_endian_number : (width : ℕ) (bytes : List ℕ) → length bytes ≡ width → AllBelowBase 256 bytes
    → big_endian width (number_from_digits 256 bytes) ≡ bytes
big_endian_number zero bytes long under = sym (nil_from_length bytes long)
big_endian_number (suc width) bytes long under =
    let front = take width bytes in
    let last = get_or bytes width 0 in
    let within : width < length bytes = omega arith in
    let split : bytes ≡ front ++ (last ∷ []) =
    sym (take_all (width + 1) bytes (omega arith)) ∙ take_more bytes width 0 within in
    let value : number_from_digits 256 bytes ≡ number_from_digits 256 front * 256 + last = ap (number_from_digits 256) split ∙ number_push 256 front last in
    let small : last < 256 = All-get_or (λ b. b < 256) bytes width 0 within under in
    let high : number_from_digits 256 bytes / 256 ≡ number_from_digits 256 front = omega arith in
    let low : number_from_digits 256 bytes % 256 ≡ last = omega arith in
    let again : big_endian width (number_from_digits 256 front) ≡ front =
    big_endian_number width front (length-take-le width bytes (omega arith)) (All-take (λ b. b < 256) width bytes under) in
    ap₂ (λ xs x. xs ++ (x ∷ [])) (ap (big_endian width) high ∙ again) low ∙ sym split
