-- What the two calls that change a book answer, and what they leave.
use Rattle.std.specs.Prelude.{◌≡◌, cond, is_ok, Ok, Err, Result, ◌==◌, nat_lt}
use Rattle.plan.specs.Limits.{most_legs}
use Rattle.plan.specs.declared.refusals.Refusal.{Refusal}
use Rattle.plan.specs.declared.refusals.Refusal.TheVariants as refusal
use Rattle.book.specs.Loads.{admissible}
use Rattle.book.specs.Meaning.{Meaning, plus, total}
use Rattle.book.specs.declared.legs.Leg.{Leg}

abbrev pub Answer : Type 0
Answer = Result (Unit {0}) Refusal

-- 21 where the leg is not admissible, else 22 where the book has as many legs as it may have
abbrev pub reserves : Meaning → Leg → Answer
reserves m l =
    cond (admissible m l) (cond (nat_lt (total m) most_legs) (Ok tt) (Err refusal.LegsFull)) (Err refusal.LegNotAdmissible)

-- 23 where no such leg stands
abbrev pub frees : Meaning → Leg → Answer
frees m l = cond (m.standing l.segment l.entry == 0) (Err refusal.LegNotStanding) (Ok tt)

-- one leg more, or nothing changed
pub record Reserved (m : Meaning) (l : Leg) (r : Answer) (after : Meaning) : Type 0 where
  pub answer : r ≡ reserves m l
  pub change : after ≡ cond (is_ok r) (plus m l) m

-- what was there is what is there and the leg, or nothing changed
pub record Freed (m : Meaning) (l : Leg) (r : Answer) (after : Meaning) : Type 0 where
  pub answer : r ≡ frees m l
  pub change : m ≡ cond (is_ok r) (plus after l) after
