-- Numbers behind spaces.
use Rattle.std.proofs.Common.{◌≡◌, ℕ, zero, suc, ◌*◌, ◌≤◌, List, [], ◌∷◌, ◌++◌, length, sym, refl, ap, ◌∙◌, arith}
use Rattle.std.proofs.lemmas.List.{append_assoc, length-append}
use Rattle.call_lines.specs.Grammar.{Number, Spaced, space}
use Rattle.call_lines.specs.Stops.{GoesOn}
use Rattle.call_lines.specs.Words.{NoDigit}
use Rattle.call_lines.proofs.Digits.{run_unique}

pub spaced_no_digit : (ns bytes : List ℕ) → Spaced ns bytes → NoDigit bytes
spaced_no_digit [] bytes empty = rw empty tt
spaced_no_digit (n ∷ ns) bytes spaced = rw spaced.4 (λ digit. omega arith)

-- a number behind a space, of bytes that begin with such: it is this number, and so is what is left
pub next_unique :
    (w r v s : List ℕ) (n : ℕ) (ns : List ℕ)
    → (m : ℕ) → Number w m → NoDigit r → Number v n → Spaced ns s
    → space ∷ (w ++ r) ≡ space ∷ (v ++ s) → (w ≡ v) × (r ≡ s)
next_unique w r v s n ns m number_w end number_v spaced same =
    let tails : w ++ r ≡ v ++ s = cc in
    run_unique w r v s number_w.digits number_v.digits end (spaced_no_digit ns s spaced) tails

pub spaced_unique : (ns ms bytes : List ℕ) → Spaced ns bytes → Spaced ms bytes → ns ≡ ms
spaced_unique [] [] bytes one other = refl
spaced_unique [] (m ∷ ms) bytes one other =
    let differ : [] ≡ space ∷ (other.0 ++ other.1) = sym one ∙ other.4 in cc
spaced_unique (n ∷ ns) [] bytes one other =
    let differ : [] ≡ space ∷ (one.0 ++ one.1) = sym other ∙ one.4 in cc
spaced_unique (n ∷ ns) (m ∷ ms) bytes one other =
    let parts =
    next_unique one.0 one.1 other.0 other.1 m ms n one.2
    (spaced_no_digit ns one.1 one.3) other.2 other.3 (sym one.4 ∙ other.4) in
    let same_rest : Spaced ns other.1 = rw parts.1 at one.3 in
    let rest = spaced_unique ns ms other.1 same_rest other.3 in
    let first : n ≡ m = cc (one.2.value, other.2.value, parts.0) in
    cc (rest, first)

-- each number takes six bytes at most
pub spaced_length : (ns bytes : List ℕ) → Spaced ns bytes → length bytes ≤ 6 * length ns
spaced_length [] bytes empty = rw empty (omega arith)
spaced_length (n ∷ ns) bytes spaced =
    let rest = spaced_length ns spaced.1 spaced.3 in
    let few = spaced.2.few in
    rw spaced.4 (omega (arith, length-append spaced.0 spaced.1))

pub zero_number : Number (48 ∷ []) 0
zero_number = record {
  digits = ((omega arith, omega arith), tt);
  some = omega arith;
  few = omega arith;
  value = refl;
  small = omega arith;
}

-- so many spaced numbers can be spelled
pub some_spaced : (count : ℕ) → GoesOn count []
some_spaced zero = ([], [], refl, refl)
some_spaced (suc count) =
    let rest = some_spaced count in (
      space ∷ (48 ∷ rest.0),
      0 ∷ rest.1,
      ap suc rest.2,
      (48 ∷ [], rest.0, zero_number, rest.3, refl),
    )

-- a number in front of what can be continued to so many
pub goes_on_number :
    (count : ℕ) (word bytes : List ℕ) (n : ℕ)
    → Number word n → GoesOn count bytes → GoesOn (suc count) (space ∷ (word ++ bytes))
goes_on_number count word bytes n number more = (
  more.0,
  n ∷ more.1,
  ap suc more.2,
  (word, bytes ++ more.0, number, more.3, ap (λ l. space ∷ l) (append_assoc word bytes more.0)),
)

-- the first of so many numbers and one more
pub record First (count : ℕ) (bytes : List ℕ) : Type 0 where
  pub word : List ℕ
  pub rest : List ℕ
  pub n : ℕ
  pub ns : List ℕ
  pub long : length ns ≡ count
  pub number : Number word n
  pub spaced : Spaced ns rest
  pub joined : bytes ≡ space ∷ (word ++ rest)

pub first_number :
    (count : ℕ) (ns bytes : List ℕ) → length ns ≡ suc count → Spaced ns bytes → First count bytes
first_number count [] bytes long spaced = absurd (omega arith)
first_number count (n ∷ ns) bytes long spaced = record {
  word = spaced.0;
  rest = spaced.1;
  n = n;
  ns = ns;
  long = omega arith;
  number = spaced.2;
  spaced = spaced.3;
  joined = spaced.4;
}
