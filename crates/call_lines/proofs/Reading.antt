-- What the first word of a rest says about the numbers that are to come.
use Rattle.std.proofs.Common.{◌≡◌, ℕ, suc, ◌+◌, ◌<◌, ◌≤◌, List, [], ◌∷◌, ◌++◌, length, drop, Err, Result, sym, refl, ap, ◌∙◌, subst, arith}
use Rattle.std.specs.List.{AllByRecursion}
use Rattle.std.specs.Result.{IsErrAnd}
use Rattle.std.proofs.lemmas.Result.{err_from_is_err_and}
use Rattle.std.proofs.lemmas.List.{drop_at, length-append}
use Rattle.call_lines.specs.Grammar.{Digit, Number, Spaced, space}
use Rattle.call_lines.specs.Stops.{Passes, SpacedRest, Stops, StopsAt, Taken}
use Rattle.call_lines.specs.Words.{Begins, NoDigit, Run, column_of}
use Rattle.call_lines.specs.declared.words.Rest.{Rest}
use Rattle.call_lines.specs.declared.words.Word.{Word}
use Rattle.call_lines.specs.declared.words.Word.TheVariants.{Letter, Digits, End}
use Rattle.call_lines.proofs.Stopping.{
  stops_behind,
  stops_in_digits,
  stops_past_numbers,
  stops_without_digit,
  stops_without_space,
}

pub run_fits : {bytes digits : List ℕ} → Run bytes digits → length digits ≤ length bytes
run_fits {bytes} {digits} run =
    omega (arith, ap length run.joined, length-append digits run.rest)

run_first :
    (digits bytes rest : List ℕ)
    → AllByRecursion Digit digits → 0 < length digits → bytes ≡ digits ++ rest
    → (byte : ℕ) × (others : List ℕ) × Digit byte × (bytes ≡ byte ∷ others)
run_first [] bytes rest all some joined = absurd (omega arith)
run_first (d ∷ ds) bytes rest all some joined = (d, ds ++ rest, all.0, joined)

module _ (bytes : List ℕ) (start : ℕ) where
  -- a byte that is no digit is the first word
  pub letter_first :
      (word : Word) (byte : ℕ) (rest : List ℕ)
      → Begins bytes start word → bytes ≡ byte ∷ rest → (Digit byte → ⊥) → (column : ℕ) × (word ≡ Letter byte column)
  letter_first (Letter other column) byte rest begins is none =
      let same : bytes ≡ other ∷ begins.2.0 = begins.2.1 in (column, ap (λ k. Letter k column) (cc))
  letter_first (Digits digits column) byte rest begins is none =
      let run = begins.1 in
      let first = run_first digits.now bytes run.rest run.all run.some run.joined in
      let same : first.0 ≡ byte = cc first.3 in
      absurd (none (rw same at first.2))
  letter_first (End column) byte rest begins is none = let empty = begins.1 in cc

  pub word_at : (word : Word) → Begins bytes start word → column_of word ≡ start
  word_at (Letter byte column) begins = begins.0
  word_at (Digits digits column) begins = begins.0
  word_at (End column) begins = begins.0

  some_bytes : (word : Word) → Begins bytes start word → ((k : ℕ) → word ≡ End k → ⊥) → 0 < length bytes
  some_bytes (Letter byte column) begins other = omega (arith, ap length begins.2.1)
  some_bytes (Digits digits column) begins other = omega (arith, begins.1.some, run_fits begins.1)
  some_bytes (End column) begins other = absurd (other column refl)

  no_digit_first :
      (word : Word) → Begins bytes start word → ((d : _) (k : ℕ) → word ≡ Digits d k → ⊥) → NoDigit bytes
  no_digit_first (Letter byte column) begins other = subst NoDigit (sym begins.2.1) begins.1
  no_digit_first (Digits digits column) begins other = absurd (other digits column refl)
  no_digit_first (End column) begins other = subst NoDigit (sym begins.1) tt

  -- the first word is not the end
  pub past_end :
      (word : Word) {column : ℕ}
      → Begins bytes start word → column ≡ column_of word → ((k : ℕ) → word ≡ End k → ⊥)
      → StopsAt 0 bytes start column
  past_end word begins at other =
      (0, omega (arith, at ∙ word_at word begins), stops_past_numbers bytes (some_bytes word begins other))

  -- the first word is no space
  pub no_space :
      (word : Word) {column : ℕ}
      → Begins bytes start word → column ≡ column_of word → ((k : ℕ) → word ≡ Letter space k → ⊥)
      → (more : ℕ) → StopsAt (suc more) bytes start column
  no_space word begins at other more = (
    0,
    omega (arith, at ∙ word_at word begins),
    stops_without_space more bytes (λ rest is.
        let letter = letter_first word space rest begins is (λ digit. omega arith) in other letter.0 letter.1),
  )

module _ (bytes : List ℕ) (start : ℕ) (after : Rest) (spaced : SpacedRest bytes start after) where
  -- no digit behind the space
  pub no_digit :
      (word : Word) {column : ℕ}
      → Begins after.bytes.now after.column word → column ≡ column_of word
      → ((d : _) (k : ℕ) → word ≡ Digits d k → ⊥)
      → (more : ℕ) → StopsAt (suc more) bytes start column
  no_digit word begins at other more = (
    1,
    omega (arith, spaced.column, at ∙ word_at _ _ word begins),
    subst (λ l. Stops (suc more) l 1) (sym spaced.joined)
        (stops_without_digit more after.bytes.now (no_digit_first _ _ word begins other)),
  )

  -- a digit behind the space passes a limit
  pub too_large :
      (digits : List ℕ) (column place : ℕ)
      → Run after.bytes.now digits → column ≡ after.column + place → Passes digits place
      → (more : ℕ) → StopsAt (suc more) bytes start column
  too_large digits column place run here passes more =
      let at = spaced.column in
      let joined : bytes ≡ space ∷ (digits ++ run.rest) = spaced.joined ∙ ap (λ l. space ∷ l) run.joined in (
        suc place,
        omega arith,
        subst (λ l. Stops (suc more) l (suc place)) (sym joined)
            (stops_in_digits more digits run.rest place run.all passes),
      )

  pub taken :
      (digits : List ℕ) (n : ℕ) (last : Rest)
      → Run after.bytes.now digits
      → Number digits n
      → last.bytes.now ≡ drop (length digits) after.bytes.now
      → last.column ≡ after.column + length digits
      → Taken bytes start n last
  taken digits n last run number left column =
      let at = spaced.column in
      let tail : last.bytes.now ≡ run.rest =
      left ∙ ap (drop (length digits)) run.joined ∙ drop_at digits run.rest (length digits) refl in
      let joined : bytes ≡ space ∷ (digits ++ last.bytes.now) =
      spaced.joined ∙ ap (λ l. space ∷ l) (run.joined ∙ ap (λ l. digits ++ l) (sym tail)) in
      let size : length bytes ≡ suc (length digits + length last.bytes.now) =
      ap length joined ∙ ap suc (length-append digits last.bytes.now) in
      record {
        word = digits;
        number = number;
        joined = joined;
        whole = subst NoDigit (sym tail) run.whole;
        column = omega arith;
        same_end = omega arith;
      }

-- what is wrong behind a number is wrong with one number more
pub behind_number :
    (bytes : List ℕ) (start n : ℕ) (after : Rest)
    → Taken bytes start n after
    → (count column : ℕ)
    → StopsAt count after.bytes.now after.column column → StopsAt (suc count) bytes start column
behind_number bytes start n after taken count column stops =
    let at = taken.column in
    let here = stops.1 in
    let word = taken.word in (
      suc (length word + stops.0),
      omega arith,
      subst (λ l. Stops (suc count) l (suc (length word + stops.0))) (sym taken.joined)
          (stops_behind count word after.bytes.now n stops.0 taken.number taken.whole stops.2),
    )

pub spaced_behind :
    (bytes : List ℕ) (start n : ℕ) (after : Rest)
    → Taken bytes start n after → (ns : List ℕ) → Spaced ns after.bytes.now → Spaced (n ∷ ns) bytes
spaced_behind bytes start n after taken ns spaced =
    (taken.word, after.bytes.now, taken.number, spaced, taken.joined)

-- what a `?` hands on is the column that it was told
pub handed : {T : Type 0} (P : Result T ℕ → Type 0) {e : ℕ} (r : Result T ℕ) → IsErrAnd r (λ y. y ≡ e) → P (Err e) → P r
handed P r is known = let error = err_from_is_err_and r is in rw (error.1, error.2) known
