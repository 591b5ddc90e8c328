-- Numbers read from a slice of bytes.
use Rattle.std.proofs.Common.{◌≡◌, ℕ, ◌<◌, List, length, get_or, take, ap, ◌∙◌, zero-add, w8, Fits}
use Rattle.std.proofs.ByRecursion.{All-from_get_or}
use Rattle.std.proofs.lemmas.List.{drop_more}
use Rattle.std.specs.Int.Digits.{AllBelowBase, number_from_digits}
use Rattle.sheet.specs.Numbers.{field}

pub under_typed : (bytes : List ℕ) → ((i : ℕ) → Fits w8 (get_or bytes i 0)) → AllBelowBase 256 bytes
under_typed bytes typed = All-from_get_or (λ b. b < 256) bytes 0 (λ i within. (typed i).fits)

pub field_one : (place : ℕ) (bytes : List ℕ) → place < length bytes → field 1 place bytes ≡ get_or bytes place 0
field_one place bytes within =
    ap (λ bs. number_from_digits 256 (take 1 bs)) (drop_more bytes place 0 within) ∙ zero-add (get_or bytes place 0)
