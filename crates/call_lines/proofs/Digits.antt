-- Runs of digits, and the numbers that they write.
use Rattle.std.proofs.Common.{◌≡◌, ℕ, zero, suc, ◌+◌, ◌-◌, ◌*◌, ◌<◌, ◌≤◌, List, [], ◌∷◌, ◌++◌, length, get_or, take, drop, Some, None, Option, MatchOption, sym, refl, ap, ◌∙◌, arith}
use Rattle.std.specs.List.{AllByRecursion, AllWithin, HoldsAt}
use Rattle.std.specs.Option.{unwrap_or}
use Rattle.std.proofs.ByRecursion.{All-from_get_or, All-take}
use Rattle.std.proofs.lemmas.List.{append-nil, drop_all, drop_more, get_or-take, length-take-le, take_more}
use Rattle.call_lines.specs.Grammar.{Digit, most_digits, most_number, read_on}
use Rattle.call_lines.specs.Stops.{Passes}
use Rattle.call_lines.specs.Words.{Front, NoDigit}

pub read_on_append : (n : ℕ) (xs ys : List ℕ) → read_on n (xs ++ ys) ≡ read_on (read_on n xs) ys
read_on_append n [] ys = refl
read_on_append n (x ∷ xs) ys = read_on_append (n * 10 + (x - 48)) xs ys

-- more digits write no smaller number
pub read_on_ge : (n : ℕ) (xs : List ℕ) → n ≤ read_on n xs
read_on_ge n [] = omega arith
read_on_ge n (x ∷ xs) = omega (arith, read_on_ge (n * 10 + (x - 48)) xs)

pub read_on_more :
    (ds : List ℕ) (i : ℕ)
    → i < length ds → read_on 0 (take (i + 1) ds) ≡ read_on 0 (take i ds) * 10 + (get_or ds i 0 - 48)
read_on_more ds i inside =
    ap (read_on 0) (take_more ds i 0 inside) ∙ read_on_append 0 (take i ds) (get_or ds i 0 ∷ [])

no_digit_from : (xs : List ℕ) (i : ℕ) → i < length xs → HoldsAt (λ x. Digit x → ⊥) xs i → NoDigit (drop i xs)
no_digit_from xs i inside none = rw (drop_more xs i 0 inside) (none 0)

no_digit_past : (xs : List ℕ) → NoDigit (drop (length xs) xs)
no_digit_past xs = rw (drop_all (length xs) xs (omega arith)) tt

digits_in_front : (xs : List ℕ) (i : ℕ) → i ≤ length xs → AllWithin Digit xs 0 i → AllByRecursion Digit (take i xs)
digits_in_front xs i upto all =
    All-from_get_or Digit (take i xs) 0
    (λ k inside.
    let within : k < i = omega (arith, length-take-le i xs upto) in
    rw (get_or-take i xs k 0 within) (all k 0 (omega arith) within))

-- the first byte that is no digit, if there is one, ends the digits in front
pub front_from_first :
    (xs : List ℕ) (first : Option ℕ)
    → MatchOption first (AllWithin Digit xs 0 (length xs))
    (λ i. (i < length xs) × HoldsAt (λ x. Digit x → ⊥) xs i × AllWithin Digit xs 0 i)
    → Front xs (unwrap_or first (length xs))
front_from_first xs None all = record {
  within = omega arith;
  all = digits_in_front xs (length xs) (omega arith) all;
  whole = no_digit_past xs;
}
front_from_first xs (Some i) found = record {
  within = omega (arith, found.0);
  all = digits_in_front xs i (omega (arith, found.0)) found.2;
  whole = no_digit_from xs i found.0 found.1;
}

-- one digit passes no limit
first_fits :
    (digits : List ℕ) (place : ℕ)
    → AllByRecursion Digit digits
    → place < length digits
    → (place < most_digits → most_number < read_on 0 (take (place + 1) digits))
    → 0 < place
first_fits [] place all inside passed = absurd (omega arith)
first_fits (d ∷ ds) zero all inside passed = absurd (omega (arith, passed (omega arith), all.0.1))
first_fits (d ∷ ds) (suc place) all inside passed = omega arith

-- the first digit that is one too many, or makes the number too large
pub passes_limit :
    (digits : List ℕ) (place : ℕ)
    → AllByRecursion Digit digits
    → place < length digits
    → read_on 0 (take place digits) ≤ most_number
    → place ≤ most_digits
    → (place < most_digits → most_number < read_on 0 (take (place + 1) digits))
    → Passes digits place
passes_limit digits place all inside small few passed =
    let one_on : place + 1 ≡ suc place = omega arith in
    record {
      within = inside;
      before = record {
        digits = All-take Digit place digits all;
        some = rw (length-take-le place digits (omega arith)) (first_fits digits place all inside passed);
        few = rw (length-take-le place digits (omega arith)) few;
        value = refl;
        small = small;
      };
      passed = rw one_on at passed;
    }

-- digits in front of two lists that are equal: the longer run begins with the other
pub run_begins :
    (xs rs ys ss : List ℕ)
    → AllByRecursion Digit xs → NoDigit ss → xs ++ rs ≡ ys ++ ss → (ts : List ℕ) × (ys ≡ xs ++ ts) × (rs ≡ ts ++ ss)
run_begins [] rs ys ss digits end same = (ys, refl, same)
run_begins (x ∷ xs) rs [] [] digits end same = absurd (cc)
run_begins (x ∷ xs) rs [] (s ∷ ss) digits end same =
    let here : x ≡ s = cc in absurd (end (rw here at digits.0))
run_begins (x ∷ xs) rs (y ∷ ys) ss digits end same =
    let here : x ≡ y = cc in
    let behind : xs ++ rs ≡ ys ++ ss = cc in
    let rest = run_begins xs rs ys ss digits.1 end behind in
    let front : y ∷ ys ≡ x ∷ (xs ++ rest.0) = cc (rest.1, here) in
    (rest.0, front, rest.2)

no_more : (xs ts ss : List ℕ) → AllByRecursion Digit (xs ++ ts) → NoDigit (ts ++ ss) → ts ≡ []
no_more [] [] ss all end = refl
no_more [] (t ∷ ts) ss all end = absurd (end all.0)
no_more (x ∷ xs) ts ss all end = no_more xs ts ss all.1 end

-- the longest run of digits in front is one run
pub run_unique :
    (xs rs ys ss : List ℕ)
    → AllByRecursion Digit xs → AllByRecursion Digit ys → NoDigit rs → NoDigit ss → xs ++ rs ≡ ys ++ ss → (xs ≡ ys) × (rs ≡ ss)
run_unique xs rs ys ss all_x all_y end_r end_s same =
    let longer = run_begins xs rs ys ss all_x end_s same in
    let none = no_more xs longer.0 ss (rw longer.1 at all_y) (rw longer.2 at end_r) in
    (sym (longer.1 ∙ ap (λ t. xs ++ t) none ∙ append-nil xs), longer.2 ∙ ap (λ t. t ++ ss) none)
