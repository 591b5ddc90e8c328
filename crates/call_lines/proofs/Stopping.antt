-- Where spaced numbers break the form.
use Rattle.std.proofs.Common.{◌≡◌, ℕ, suc, ◌+◌, ◌<◌, List, [], ◌∷◌, ◌++◌, length, take, drop, sym, refl, ap, ◌∙◌, subst, zero-add, arith}
use Rattle.std.specs.List.{AllByRecursion}
use Rattle.std.proofs.ByRecursion.{All-take}
use Rattle.std.proofs.lemmas.List.{append_assoc, append-nil, length-append, length-take-le, take_all, take-append-drop, take-append-le}
use Rattle.call_lines.specs.Grammar.{Digit, Number, Spaced, read_on, space}
use Rattle.call_lines.specs.Stops.{GoesOn, Passes, Stops}
use Rattle.call_lines.specs.Words.{NoDigit}
use Rattle.call_lines.proofs.Digits.{read_on_append, read_on_ge, run_begins}
use Rattle.call_lines.proofs.Spacing.{
  first_number,
  goes_on_number,
  next_unique,
  some_spaced,
  spaced_no_digit,
  zero_number,
}

-- what spells some numbers can be continued to such, at each place
goes_on_from_spaced :
    (count : ℕ) (bytes ns : List ℕ) (place : ℕ)
    → length ns ≡ count → Spaced ns bytes → GoesOn count (take place bytes)
goes_on_from_spaced count bytes ns place long spaced =
    (drop place bytes, ns, long, rw take-append-drop spaced)

-- the byte at the place is there, and no such numbers begin with it
pub stops_here :
    (count : ℕ) (bytes : List ℕ) (place : ℕ)
    → place < length bytes
    → GoesOn count (take place bytes)
    → (GoesOn count (take (suc place) bytes) → ⊥)
    → Stops count bytes place
stops_here count bytes place inside before here = record {
  none = λ ns long spaced. here (goes_on_from_spaced count bytes ns (suc place) long spaced);
  within = omega arith;
  before = before;
  here = λ _. here;
}

-- the place is one past the end, and there are no such numbers
pub stops_at_end :
    (count : ℕ) (bytes : List ℕ) (place : ℕ)
    → place ≡ length bytes
    → GoesOn count bytes
    → ((ns : List ℕ) → length ns ≡ count → Spaced ns bytes → ⊥)
    → Stops count bytes place
stops_at_end count bytes place end before none = record {
  none = none;
  within = omega arith;
  before = rw (take_all place bytes (omega arith)) before;
  here = λ inside _. absurd (omega arith);
}

no_spaced_zero : (ns : List ℕ) (byte : ℕ) (bytes : List ℕ) → length ns ≡ 0 → Spaced ns (byte ∷ bytes) → ⊥
no_spaced_zero [] byte bytes long spaced = cc
no_spaced_zero (n ∷ ns) byte bytes long spaced = omega arith

-- a byte behind the last number
pub stops_past_numbers : (bytes : List ℕ) → 0 < length bytes → Stops 0 bytes 0
stops_past_numbers [] some = absurd (omega arith)
stops_past_numbers (b ∷ bs) some =
    stops_here 0 (b ∷ bs) 0 (omega arith) (some_spaced 0) (λ more. no_spaced_zero more.1 b more.0 more.2 more.3)

-- no space
pub stops_without_space :
    (count : ℕ) (bytes : List ℕ) → ((rest : List ℕ) → bytes ≡ space ∷ rest → ⊥) → Stops (suc count) bytes 0
stops_without_space count [] other =
    stops_at_end (suc count) [] 0 refl (some_spaced (suc count))
    (λ ns long spaced. other _ (first_number count ns [] long spaced).joined)
stops_without_space count (b ∷ bs) other =
    stops_here (suc count) (b ∷ bs) 0 (omega arith) (some_spaced (suc count))
    (λ more.
    let first = first_number count more.1 (b ∷ more.0) more.2 more.3 in
    let same : b ≡ space = cc first.joined in
    other bs (ap (λ k. k ∷ bs) same))

number_begins : (word rest : List ℕ) (n : ℕ) → Number word n → NoDigit (word ++ rest) → ⊥
number_begins [] rest n number end = omega (arith, number.some)
number_begins (d ∷ ds) rest n number end = end number.digits.0

no_digit_first :
    (count : ℕ) (bytes ns : List ℕ)
    → NoDigit bytes → length ns ≡ suc count → Spaced ns (space ∷ bytes) → ⊥
no_digit_first count bytes ns end long spaced =
    let first = first_number count ns (space ∷ bytes) long spaced in
    let same : bytes ≡ first.word ++ first.rest = cc first.joined in
    number_begins first.word first.rest first.n first.number (rw same at end)

no_digit_here :
    (count : ℕ) (bytes : List ℕ)
    → NoDigit bytes → 1 < length (space ∷ bytes) → GoesOn (suc count) (take 2 (space ∷ bytes)) → ⊥
no_digit_here count [] end inside more = omega arith
no_digit_here count (b ∷ bs) end inside more = no_digit_first count (b ∷ more.0) more.1 end more.2 more.3

-- no digit behind the space
pub stops_without_digit :
    (count : ℕ) (bytes : List ℕ) → NoDigit bytes → Stops (suc count) (space ∷ bytes) 1
stops_without_digit count bytes end =
    let rest = some_spaced count in
    record {
      none = λ ns long spaced. no_digit_first count bytes ns end long spaced;
      within = omega arith;
      before = (48 ∷ rest.0, 0 ∷ rest.1, ap suc rest.2, (48 ∷ [], rest.0, zero_number, rest.3, refl));
      here = no_digit_here count bytes end;
    }

-- a digit that passes a limit
pub stops_in_digits :
    (count : ℕ) (digits rest : List ℕ) (place : ℕ)
    → AllByRecursion Digit digits → Passes digits place → Stops (suc count) (space ∷ (digits ++ rest)) (suc place)
stops_in_digits count digits rest place all passes =
    let inside = passes.within in
    let front : take place (digits ++ rest) ≡ take place digits = take-append-le place digits rest (omega arith) in
    let upto : take (suc place) (digits ++ rest) ≡ take (suc place) digits =
    take-append-le (suc place) digits rest (omega arith) in
    let word = take (suc place) digits in
    stops_here (suc count) (space ∷ (digits ++ rest)) (suc place)
    (omega (arith, length-append digits rest))
    (let start = goes_on_number count (take place digits) [] _ passes.before (some_spaced count) in
    rw (front, ← append-nil (take place digits)) start)
    (λ more.
    let spaced : Spaced more.1 (space ∷ (word ++ more.0)) = rw upto at more.3 in
    let first = first_number count more.1 (space ∷ (word ++ more.0)) more.2 spaced in
    let same : word ++ more.0 ≡ first.word ++ first.rest = cc first.joined in
    let longer =
    run_begins word more.0 first.word first.rest (All-take Digit (suc place) digits all)
    (spaced_no_digit first.ns first.rest first.spaced) same in
    let number = first.number in
    let value : read_on 0 first.word ≡ read_on (read_on 0 word) longer.0 =
    ap (read_on 0) longer.1 ∙ read_on_append 0 word longer.0 in
    let long : length first.word ≡ length word + length longer.0 =
    ap length longer.1 ∙ length-append word longer.0 in
    let size = length-take-le (suc place) digits (omega arith) in
    let few = number.few in
    let passed = passes.passed (omega arith) in
    omega (arith, number.value, number.small, read_on_ge (read_on 0 word) longer.0))

take_behind : (word rest : List ℕ) (place : ℕ) → take (length word + place) (word ++ rest) ≡ word ++ take place rest
take_behind [] rest place = rw zero-add
take_behind (d ∷ ds) rest place =
    let next : length (d ∷ ds) + place ≡ suc (length ds + place) = omega arith in
    ap (λ k. take k (d ∷ (ds ++ rest))) next ∙ ap (λ l. d ∷ l) (take_behind ds rest place)

no_digit_taken :
    (bytes more : List ℕ) (place : ℕ)
    → place < length bytes → NoDigit bytes → NoDigit (take (suc place) bytes ++ more)
no_digit_taken [] more place inside end = absurd (omega arith)
no_digit_taken (b ∷ bs) more place inside end = end

-- behind a number
pub stops_behind :
    (count : ℕ) (word rest : List ℕ) (n place : ℕ)
    → Number word n → NoDigit rest → Stops count rest place
    → Stops (suc count) (space ∷ (word ++ rest)) (suc (length word + place))
stops_behind count word rest n place number end stops =
    let one_on : suc (length word + place) ≡ length word + suc place = omega arith in
    let upto : take (suc (length word + place)) (word ++ rest) ≡ word ++ take (suc place) rest =
    ap (λ k. take k (word ++ rest)) one_on ∙ take_behind word rest (suc place) in
    record {
      none = λ ns long spaced.
          let first = first_number count ns (space ∷ (word ++ rest)) long spaced in
          let parts =
          next_unique word rest first.word first.rest first.n first.ns n number end
          first.number first.spaced first.joined in
          stops.none first.ns first.long (subst (Spaced first.ns) (sym parts.1) first.spaced);
      within = omega (arith, length-append word rest, stops.within);
      before = rw (take_behind word rest place) (goes_on_number count word (take place rest) n number stops.before);
      here = λ inside more.
          let inner : place < length rest = omega (arith, length-append word rest) in
          let spaced : Spaced more.1 (space ∷ ((word ++ take (suc place) rest) ++ more.0)) = rw upto at more.3 in
          let joined : Spaced more.1 (space ∷ (word ++ (take (suc place) rest ++ more.0))) =
          rw append_assoc at spaced in
          let first = first_number count more.1 _ more.2 joined in
          let parts =
          next_unique word (take (suc place) rest ++ more.0) first.word first.rest first.n first.ns n
          number (no_digit_taken rest more.0 place inner end) first.number first.spaced first.joined in
          let left = subst (Spaced first.ns) (sym parts.1) first.spaced in
          stops.here inner (more.0, first.ns, first.long, left);
    }
