-- The numbers of bookings, and the tokens that are out for them.
use Rattle.std.specs.Prelude.{◌≡◌, ℕ, ◌+◌, ◌≤◌, cond, ◌&&◌, ◌≢◌, List, [], ◌∷◌, ◌==◌}
use Rattle.std.specs.Coded.{Unit-prop, le_prop, ×_prop}
use Rattle.std.specs.List.{AllByRecursion, AllByRecursion-prop}
use mathlib.Core.HLevel.{¬_prop}
use Rattle.bookings.specs.States.{code}
use Rattle.bookings.specs.declared.states.Booking.{Booking}
use Rattle.bookings.specs.declared.states.State.{State}
use Rattle.bookings.specs.declared.states.State.TheVariants.{Held, UnderWay}

-- ---- numbers

-- no two bookings have one number
abbrev pub Distinct : List Booking → Type 0
Distinct [] = Unit {0}
Distinct (b ∷ bs) = AllByRecursion (λ c. c.number ≢ b.number) bs × Distinct bs

-- and none has one above k
pub record Numbered (k : ℕ) (bs : List Booking) : Type 0 where
  pub given : AllByRecursion (λ b. b.number ≤ k) bs
  pub distinct : Distinct bs

-- which two facts have one proof at most
Distinct-prop : (bs : List Booking) → IsProp (Distinct bs)
Distinct-prop [] = Unit-prop
Distinct-prop (b ∷ bs) = ×_prop (AllByRecursion-prop _ (λ c. ¬_prop) bs) (Distinct-prop bs)

pub Numbered-prop : (k : ℕ) (bs : List Booking) → IsProp (Numbered k bs)
Numbered-prop k bs p q =
    let given = AllByRecursion-prop (λ b. b.number ≤ k) (λ b. le_prop) bs p.given q.given in
    let distinct = Distinct-prop bs p.distinct q.distinct in
    λ i. record { given = given i; distinct = distinct i }

-- ---- tokens

-- 1 where a booking with number k in a state r has number n and is in the state s
abbrev pub hit : State → ℕ → State → ℕ → ℕ
hit s n r k = cond (code r == code s && k == n) 1 0

-- how many bookings with number n are in the state s
abbrev pub tally : State → ℕ → List Booking → ℕ
tally s n [] = 0
tally s n (b ∷ bs) = hit s n b.state b.number + tally s n bs

-- `holds n` holds and `passages n` passages with number n are out: those of the bookings that are not parked, each once
pub record Matched (holds passages : ℕ → ℕ) (bs : List Booking) : Type 0 where
  pub held : (n : ℕ) → tally Held n bs ≡ holds n
  pub under_way : (n : ℕ) → tally UnderWay n bs ≡ passages n
