-- Books with legs added.
use Rattle.std.proofs.Common.{◌≡◌, ℕ, ◌+◌, ◌<◌, ◌≤◌, true, false, cond, eqb, ltb, ◌≢◌, List, [], ◌∷◌, ◌++◌, length, is_ok, Ok, sym, refl, ap, ◌∙◌, arith}
use Rattle.std.proofs.lemmas.Bool.{cond-false, cond-true, lt-ltb, ne_eqb}
use Rattle.std.specs.List.{AllByRecursion}
use Rattle.plan.specs.Limits.{most_legs}
use Rattle.book.specs.Below.{sum_below}
use Rattle.book.specs.Calls.{Answer, Freed, Reserved}
use Rattle.book.specs.Loads.{admissible}
use Rattle.book.specs.Meaning.{Meaning, horizon, one, plus, segments, total}
use Rattle.book.specs.declared.legs.Leg.{Leg}
use Rattle.book.proofs.Loading.{others_stay_admissible}
use Rattle.book.proofs.Reserving.{one_here, plus_cancel, same_meaning}
use Rattle.book.proofs.Sums.{sum_add, sum_le, sum_point}
use Rattle.bookings.specs.Owed.{more}

-- ---- the order of legs does not matter

pub plus_swap : (m : Meaning) (k l : Leg) → plus (plus m k) l ≡ plus (plus m l) k
plus_swap m k l = same_meaning (plus (plus m k) l) (plus (plus m l) k) refl (λ i e. omega arith) refl

pub more_plus : (m : Meaning) (l : Leg) (ls : List Leg) → more (plus m l) ls ≡ plus (more m ls) l
more_plus m l [] = refl
more_plus m l (k ∷ ls) = ap (λ x. more x ls) (plus_swap m l k) ∙ more_plus (plus m k) l ls

pub more_append : (m : Meaning) (ks ls : List Leg) → more (more m ks) ls ≡ more m (ks ++ ls)
more_append m [] ls = refl
more_append m (k ∷ ks) ls = more_append (plus m k) ks ls

pub more_swap : (m : Meaning) (ks ls : List Leg) → more (more m ks) ls ≡ more (more m ls) ks
more_swap m [] ls = refl
more_swap m (k ∷ ks) ls = more_swap (plus m k) ks ls ∙ ap (λ x. more x ks) (more_plus m k ls)

-- ---- legs of other segments, and totals

pub admissible_more : (m : Meaning) (ls : List Leg) (l : Leg) → AllByRecursion (λ k. k.segment ≢ l.segment) ls
    → admissible (more m ls) l ≡ admissible m l
admissible_more m [] l apart = refl
admissible_more m (k ∷ ls) l apart =
    admissible_more (plus m k) ls l apart.1 ∙ others_stay_admissible m k l apart.0

row_plus : (l : Leg) (i n : ℕ) → sum_below n (one l i) ≤ cond (eqb l.segment i) 1 0
row_plus l i n =
    let inside : (e : ℕ) → one l i e ≤ cond (eqb l.entry e) (cond (eqb l.segment i) 1 0) 0 = λ e. grind arith in
    let step = sum_le n (one l i) _ inside in
    let point = sum_point n l.entry (cond (eqb l.segment i) 1 0) in
    grind (arith, step, point)

total_plus : (m : Meaning) (l : Leg) → total (plus m l) ≤ total m + 1
unfolding total
total_plus m l =
    let rows : (i : ℕ) → sum_below (horizon m) ((plus m l).standing i)
    ≤ sum_below (horizon m) (m.standing i) + cond (eqb l.segment i) 1 0 =
    λ i. omega (arith, sum_add (horizon m) (m.standing i) (one l i), row_plus l i (horizon m)) in
    let all = sum_le (segments m) _ _ rows in
    let parts =
    sum_add (segments m) (λ i. sum_below (horizon m) (m.standing i)) (λ i. cond (eqb l.segment i) 1 0) in
    let point = sum_point (segments m) l.segment 1 in
    grind (arith, all, parts, point)

pub total_more : (m : Meaning) (ls : List Leg) → total (more m ls) ≤ total m + length ls
total_more m [] = omega arith
total_more m (l ∷ ls) = omega (arith, total_more (plus m l) ls, total_plus m l)

-- ---- one leg reserved or freed

pub reserved_one : (m after : Meaning) (l : Leg) (r : Answer) → Reserved m l r after
    → admissible m l ≡ true → total m < most_legs → after ≡ plus m l
reserved_one m after l r reserved admitted room =
    let ok : r ≡ Ok tt =
    reserved.answer
    ∙ cond-true (admissible m l) _ _ admitted
    ∙ cond-true (ltb (total m) most_legs) _ _ (lt-ltb (total m) most_legs room) in
    reserved.change ∙ ap (λ a. cond (is_ok a) (plus m l) m) ok

pub freed_one : (m before after : Meaning) (l : Leg) (r : Answer) → before ≡ plus m l → Freed before l r after
    → after ≡ m
freed_one m before after l r is freed =
    let stands : before.standing l.segment l.entry ≡ m.standing l.segment l.entry + 1 =
    ap (λ (x : Meaning). x.standing l.segment l.entry) is
    ∙ ap (λ n. m.standing l.segment l.entry + n) (one_here l) in
    let some : eqb (before.standing l.segment l.entry) 0 ≡ false =
    ne_eqb (before.standing l.segment l.entry) 0 (λ none. omega arith) in
    let ok : r ≡ Ok tt = freed.answer ∙ cond-false (eqb (before.standing l.segment l.entry) 0) _ _ some in
    plus_cancel after m l (sym (freed.change ∙ ap (λ a. cond (is_ok a) (plus after l) after) ok) ∙ is)
