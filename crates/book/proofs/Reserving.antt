-- Reserving a leg and freeing it again.
use Rattle.std.proofs.Common.{◌≡◌, ℕ, ◌+◌, Bool, true, false, cond, eqb, ltb, is_ok, Ok, Err, sym, refl, ap, ◌∙◌, arith}
use Rattle.std.proofs.lemmas.Bool.{cond-false, cond-true, eq-eqb, ne_eqb}
use Rattle.plan.specs.Limits.{most_legs}
use Rattle.plan.specs.declared.refusals.Refusal.TheVariants as refusal
use Rattle.book.specs.Calls.{Answer, Reserved}
use Rattle.book.specs.Laws.{FreedGivesBack}
use Rattle.book.specs.Loads.{admissible}
use Rattle.book.specs.Meaning.{Meaning, one, plus, total}
use Rattle.book.specs.declared.legs.Leg.{Leg}

-- a meaning is known by its parts, and its standing numbers by their values
pub same_meaning : (m n : Meaning) → m.shown ≡ n.shown → ((i e : ℕ) → m.standing i e ≡ n.standing i e)
    → m.bars ≡ n.bars → m ≡ n
same_meaning m n shown standing bars =
    λ k. record { shown = shown k; standing = λ i e. standing i e k; bars = bars k }

pub one_here : (l : Leg) → one l l.segment l.entry ≡ 1
one_here l =
    let segment = eq-eqb l.segment l.segment refl in
    let entry = eq-eqb l.entry l.entry refl in
    grind (arith, segment, entry)

-- what has one leg more in common has the rest in common
pub plus_cancel : (m n : Meaning) (l : Leg) → plus m l ≡ plus n l → m ≡ n
plus_cancel m n l same =
    same_meaning m n
    (ap (λ (x : Meaning). x.shown) same)
    (λ i e. let at = ap (λ (x : Meaning). x.standing i e) same in omega arith)
    (ap (λ (x : Meaning). x.bars) same)

pub freed_gives_back : FreedGivesBack
freed_gives_back m reserved freed l r more less =
    let stands : reserved.standing l.segment l.entry ≡ m.standing l.segment l.entry + 1 =
    ap (λ (x : Meaning). x.standing l.segment l.entry) more.change ∙ ap (λ n. m.standing l.segment l.entry + n) (one_here l) in
    let some : eqb (reserved.standing l.segment l.entry) 0 ≡ false =
    ne_eqb (reserved.standing l.segment l.entry) 0 (λ none. omega arith) in
    let ok : r ≡ Ok tt = less.answer ∙ cond-false (eqb (reserved.standing l.segment l.entry) 0) _ _ some in
    let left : reserved ≡ plus freed l = less.change ∙ ap (λ a. cond (is_ok a) (plus freed l) freed) ok in
    (ok, plus_cancel freed m l (sym left ∙ more.change))

-- a layer that hands a leg on to the book below, once it is admissible in both
pub reserved_over : (m after over over_after : Meaning) (l : Leg) (r : Answer) → Reserved m l r after
    → admissible over l ≡ true → admissible m l ≡ true → total over ≡ total m
    → over_after ≡ cond (is_ok r) (plus over l) over → Reserved over l r over_after
reserved_over m after over over_after l r reserved admitted below same change =
    record {
      answer =
          reserved.answer
          ∙ cond-true (admissible m l) _ _ below
          ∙ ap (λ n. cond (ltb n most_legs) (Ok tt) (Err refusal.LegsFull)) (sym same)
          ∙ sym (cond-true (admissible over l) _ _ admitted);
      change = change;
    }

pub cond_under : {A B : Type 0} (f : A → B) (b : Bool) (x y : A) → f (cond b x y) ≡ cond b (f x) (f y)
cond_under f true x y = refl
cond_under f false x y = refl
