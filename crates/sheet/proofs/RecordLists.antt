-- Records one after the other: writing them all and telling them all undo each other.
use Rattle.std.proofs.Common.{◌≡◌, ℕ, zero, suc, ◌+◌, ◌*◌, ◌/◌, ◌<◌, ◌≤◌, List, [], ◌∷◌, ◌++◌, map, length, take, drop, sym, ap, ◌∙◌, ap₂, add_comm, mul-zero, mul-suc, add-one, arith}
use native.Mathlib.Nat.{add-div_left, div-eq_of_lt}
use Rattle.std.proofs.ByRecursion.{All-drop, All-take}
use Rattle.std.proofs.lemmas.List.{append-nil, drop_at, length-append, length-drop, length-take-le, nil_from_length, take_all, take-append-drop, take_at}
use Rattle.std.specs.Int.Digits.{AllBelowBase}
use Rattle.std.specs.List.{AllByRecursion}
use Rattle.sheet.specs.Records.{Layout, packed, rows, rows_by, size, told, told_all, unpacked, written, written_all}
use Rattle.sheet.proofs.Packing.{Narrow, length_packed, length_unpacked, packed_unpacked, unpacked_packed}

pub rows_none : (width : ℕ) (bytes : List ℕ) → length bytes < width → rows width bytes ≡ []
unfolding rows
rows_none width bytes short = ap (λ n. rows_by n width bytes) (div-eq_of_lt short)

pub rows_more : (width : ℕ) (first rest : List ℕ) → 0 < width → length first ≡ width
    → rows width (first ++ rest) ≡ first ∷ rows width rest
unfolding rows
rows_more width first rest positive long =
    let one_more : length (first ++ rest) / width ≡ suc (length rest / width) =
    ap (λ n. n / width) (length-append first rest ∙ ap (λ n. n + length rest) long)
    ∙ add-div_left (length rest) positive
    ∙ add-one (length rest / width) in
    ap (λ n. rows_by n width (first ++ rest)) one_more
    ∙ ap₂ ◌∷◌ (take_at first rest width long) (ap (rows_by (length rest / width) width) (drop_at first rest width long))

-- what a layout's round trips rest on: it tells the values that were written, and writes those that were told
pub record Faithful {A : Type 0} (layout : Layout A) : Type 0 where
  pub positive : 0 < size layout.widths
  pub valued : (a : A) → length (layout.values a) ≡ length layout.widths
  pub remade : (a : A) → layout.made (layout.values a) ≡ a
  pub revalued : (values : List ℕ) → length values ≡ length layout.widths → layout.values (layout.made values) ≡ values

module _ {A : Type 0} (layout : Layout A) (faithful : Faithful layout) where
  pub told_written : (a : A) (rest : List ℕ) → Narrow layout.widths (layout.values a)
      → told layout (written layout a ++ rest) ≡ a
  told_written a rest narrow =
      ap layout.made (unpacked_packed layout.widths (layout.values a) rest narrow) ∙ faithful.remade a

  pub length_written : (a : A) → length (written layout a) ≡ size layout.widths
  length_written a = length_packed layout.widths (layout.values a) (faithful.valued a)

  pub written_told : (bytes : List ℕ) → length bytes ≡ size layout.widths → AllBelowBase 256 bytes
      → written layout (told layout bytes) ≡ bytes
  written_told bytes long under =
      ap (packed layout.widths)
      (faithful.revalued (unpacked layout.widths bytes) (length_unpacked layout.widths bytes))
      ∙ packed_unpacked layout.widths bytes (omega arith) under
      ∙ take_all (size layout.widths) bytes (omega arith)

  pub length_written_all : (items : List A) → length (written_all layout items) ≡ size layout.widths * length items
  length_written_all [] = sym (mul-zero (size layout.widths))
  length_written_all (a ∷ items) =
      length-append (written layout a) (written_all layout items)
      ∙ ap₂ ◌+◌ (length_written a) (length_written_all items)
      ∙ add_comm (size layout.widths) (size layout.widths * length items)
      ∙ sym (mul-suc (size layout.widths) (length items))

  pub told_all_written : (items : List A) → AllByRecursion (λ a. Narrow layout.widths (layout.values a)) items
      → told_all layout (written_all layout items) ≡ items
  told_all_written [] narrow = ap (map (told layout)) (rows_none (size layout.widths) [] faithful.positive)
  told_all_written (a ∷ items) narrow =
      ap (map (told layout))
      (rows_more (size layout.widths) (written layout a) (written_all layout items) faithful.positive (length_written a))
      ∙ ap₂ ◌∷◌
      (ap (told layout) (sym (append-nil (written layout a))) ∙ told_written a [] narrow.0)
      (told_all_written items narrow.1)

  pub written_all_told : (count : ℕ) (bytes : List ℕ) → length bytes ≡ size layout.widths * count → AllBelowBase 256 bytes
      → written_all layout (told_all layout bytes) ≡ bytes
  written_all_told zero bytes long under =
      let empty : bytes ≡ [] = nil_from_length bytes (long ∙ mul-zero (size layout.widths)) in
      ap (λ bs. written_all layout (map (told layout) bs))
      (ap (rows (size layout.widths)) empty ∙ rows_none (size layout.widths) [] faithful.positive)
      ∙ sym empty
  written_all_told (suc count) bytes long under =
      let width = size layout.widths in
      let first = take width bytes in
      let rest = drop width bytes in
      let more : length bytes ≡ width * count + width = long ∙ mul-suc width count in
      let first_long : length first ≡ width = length-take-le width bytes (omega arith) in
      let rest_long : length rest ≡ width * count = length-drop width bytes ∙ omega arith in
      let split = take-append-drop width bytes in
      let cut : rows width bytes ≡ first ∷ rows width rest =
      ap (rows width) (sym split) ∙ rows_more width first rest faithful.positive first_long in
      ap (λ bs. written_all layout (map (told layout) bs)) cut
      ∙ ap₂ ◌++◌
      (written_told first first_long (All-take (λ b. b < 256) width bytes under))
      (written_all_told count rest rest_long (All-drop (λ b. b < 256) width bytes under))
      ∙ split

  -- the first record and the rest
  pub told_all_more : (section : List ℕ) → size layout.widths ≤ length section
      → told_all layout section
      ≡ told layout (take (size layout.widths) section) ∷ told_all layout (drop (size layout.widths) section)
  told_all_more section long =
      let width = size layout.widths in
      let first = take width section in
      let rest = drop width section in
      ap (map (told layout))
      (ap (rows width) (sym (take-append-drop width section))
      ∙ rows_more width first rest faithful.positive (length-take-le width section long))

  pub told_all_none : (section : List ℕ) → length section < size layout.widths → told_all layout section ≡ []
  told_all_none section short = ap (map (told layout)) (rows_none (size layout.widths) section short)
