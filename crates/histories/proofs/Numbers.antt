-- The numbers of the bookings owed: distinct, and none above the last one given.
use Rattle.std.proofs.Common.{◌≡◌, ℕ, ◌+◌, ◌≤◌, true, false, eqb, ◌≢◌, List, [], ◌∷◌, ◌++◌, Some, None, Option, sym, subst, subst₂, ⊎_elim, arith}
use Rattle.std.specs.List.{AllByRecursion}
use Rattle.std.proofs.ByRecursion.{All-push, All-weaker}
use Rattle.std.proofs.lemmas.Bool.{cases_Bool}
use Rattle.book.specs.Meaning.{Meaning}
use Rattle.bookings.specs.Answers.{Answers}
use Rattle.bookings.specs.Owed.{after, changed, done, moved, number_after, without}
use Rattle.bookings.specs.Steps.{Step, listed}
use Rattle.bookings.specs.declared.calls.Answer.{Answer}
use Rattle.bookings.specs.declared.calls.Answer.TheVariants.{Done, Granted, NoToken, Refused}
use Rattle.bookings.specs.declared.calls.Call.{Call}
use Rattle.bookings.specs.declared.calls.Call.TheVariants as call
use Rattle.bookings.specs.declared.register.Register.{Register}
use Rattle.bookings.specs.declared.states.Booking.{Booking}
use Rattle.bookings.specs.declared.states.State.{State}
use Rattle.histories.specs.Tokens.{Distinct, Numbered}

-- what holds of each number holds of each number left
all_moved : (P : ℕ → Type 0) (n : ℕ) (s : State) (bs : List Booking) → AllByRecursion (λ b. P b.number) bs
    → AllByRecursion (λ b. P b.number) (moved n s bs)
all_moved P n s [] all = tt
all_moved P n s (b ∷ bs) all =
    ⊎_elim
    (λ (t : eqb b.number n ≡ true). simp t all)
    (λ (f : eqb b.number n ≡ false). simp f (all.0, all_moved P n s bs all.1))
    (cases_Bool (eqb b.number n))

all_without : (P : ℕ → Type 0) (n : ℕ) (bs : List Booking) → AllByRecursion (λ b. P b.number) bs
    → AllByRecursion (λ b. P b.number) (without n bs)
all_without P n [] all = tt
all_without P n (b ∷ bs) all =
    ⊎_elim
    (λ (t : eqb b.number n ≡ true). simp t all.1)
    (λ (f : eqb b.number n ≡ false). simp f (all.0, all_without P n bs all.1))
    (cases_Bool (eqb b.number n))

distinct_moved : (n : ℕ) (s : State) (bs : List Booking) → Distinct bs → Distinct (moved n s bs)
distinct_moved n s [] distinct = tt
distinct_moved n s (b ∷ bs) distinct =
    ⊎_elim
    (λ (t : eqb b.number n ≡ true). simp t distinct)
    (λ (f : eqb b.number n ≡ false).
    simp f (all_moved (λ k. k ≢ b.number) n s bs distinct.0, distinct_moved n s bs distinct.1))
    (cases_Bool (eqb b.number n))

distinct_without : (n : ℕ) (bs : List Booking) → Distinct bs → Distinct (without n bs)
distinct_without n [] distinct = tt
distinct_without n (b ∷ bs) distinct =
    ⊎_elim
    (λ (t : eqb b.number n ≡ true). simp t distinct.1)
    (λ (f : eqb b.number n ≡ false).
    simp f (all_without (λ k. k ≢ b.number) n bs distinct.0, distinct_without n bs distinct.1))
    (cases_Bool (eqb b.number n))

distinct_push : (k : ℕ) (bs : List Booking) (b : Booking) → b.number ≡ k + 1 → AllByRecursion (λ c. c.number ≤ k) bs
    → Distinct bs → Distinct (bs ++ b ∷ [])
distinct_push k [] b is given distinct = (tt, tt)
distinct_push k (c ∷ bs) b is given distinct = (
  All-push (λ d. d.number ≢ c.number) bs b distinct.0 (λ same. omega (arith, given.0)),
  distinct_push k bs b is given.1 distinct.1,
)

numbered_push : (k : ℕ) (bs : List Booking) (b : Booking) → b.number ≡ k + 1 → Numbered k bs
    → Numbered b.number (bs ++ b ∷ [])
numbered_push k bs b is numbered = record {
  given =
      All-push (λ c. c.number ≤ b.number) bs b
      (All-weaker (λ c. c.number ≤ k) (λ c. c.number ≤ b.number) (λ c below. omega arith) bs numbered.given)
      (omega arith);
  distinct = distinct_push k bs b is numbered.given numbered.distinct;
}

numbered_changed : (k : ℕ) (s : Option State) (n : ℕ) (bs : List Booking) → Numbered k bs → Numbered k (changed s n bs)
numbered_changed k (Some s) n bs numbered = record {
  given = all_moved (λ j. j ≤ k) n s bs numbered.given;
  distinct = distinct_moved n s bs numbered.distinct;
}
numbered_changed k None n bs numbered = record {
  given = all_without (λ j. j ≤ k) n bs numbered.given;
  distinct = distinct_without n bs numbered.distinct;
}

numbered_done : (k : ℕ) (c : Call) (bs : List Booking) → Numbered k bs → Numbered k (done c bs)
numbered_done k (call.Ask q room) bs numbered = numbered
numbered_done k (call.Act act n) bs numbered = numbered_changed k _ n bs numbered

numbered_after : (m : Meaning) (k : ℕ) (c : Call) (a : Answer) (bs : List Booking) → Answers m bs k c a
    → Numbered k bs → Numbered (number_after a k) (after c a bs)
numbered_after m k (call.Ask q room) (Granted n r) bs answers numbered = numbered_push k bs _ answers.0 numbered
numbered_after m k (call.Act act number) (Granted n r) bs answers numbered = absurd answers
numbered_after m k c Done bs answers numbered = numbered_done k c bs numbered
numbered_after m k c (Refused x) bs answers numbered = numbered
numbered_after m k c NoToken bs answers numbered = numbered

pub numbered_none : (k : ℕ) (bs : List Booking) → bs ≡ [] → Numbered k bs
numbered_none k bs none = subst (Numbered k) (sym none) record { given = tt; distinct = tt }

pub numbered_next : {m m' : Meaning} {g g' : Register} {c : Call} {a : Answer} → Step m g c a m' g'
    → Numbered g.last (listed g) → Numbered g'.last (listed g')
numbered_next {m} {m'} {g} {g'} {c} {a} step numbered =
    subst₂ Numbered (sym step.numbers) (sym step.owes) (numbered_after m g.last c a (listed g) step.answers numbered)
