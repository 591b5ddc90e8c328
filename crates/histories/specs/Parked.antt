-- Bookings whose tokens have all been parked.
use Rattle.std.specs.Prelude.{◌≡◌, ℕ, List, map}
use Rattle.book.specs.Meaning.{Meaning}
use Rattle.bookings.specs.Owed.{in_state, over}
use Rattle.bookings.specs.Steps.{listed}
use Rattle.bookings.specs.declared.register.Register.{Register}
use Rattle.bookings.specs.declared.states.Booking.{Booking}
use Rattle.bookings.specs.declared.states.State.{State}
use Rattle.bookings.specs.declared.states.State.TheVariants.{Held, HeldParked, UnderWay, UnderWayParked}
use Rattle.histories.specs.Tokens.{Matched, Numbered}

abbrev pub parked_state : State → State
parked_state Held = HeldParked
parked_state HeldParked = HeldParked
parked_state UnderWay = UnderWayParked
parked_state UnderWayParked = UnderWayParked

abbrev pub parked : List Booking → List Booking
parked bs = map (λ b. in_state b (parked_state b.state)) bs

-- while tokens are parked, from a book m and a register f on: but for parking the bookings are the same, and the book
-- agrees with them as it did
pub record Parking (m : Meaning) (f : Register) (m' : Meaning) (g : Register) (holds passages : ℕ → ℕ) : Type 0 where
  pub same : parked (listed g) ≡ parked (listed f)
  pub last : g.last ≡ f.last
  pub withdrawn : g.withdrawn ≡ f.withdrawn
  pub arrived : g.arrived ≡ f.arrived
  pub agrees : (w : Meaning) → m ≡ over w (listed f) → m' ≡ over w (listed g)
  pub matched : Matched holds passages (listed g)
  pub numbered : Numbered g.last (listed g)

-- and once none is out
pub record AllParked (m : Meaning) (f : Register) (m' : Meaning) (g : Register) : Type 0 where
  pub lists : listed g ≡ parked (listed f)
  pub last : g.last ≡ f.last
  pub withdrawn : g.withdrawn ≡ f.withdrawn
  pub arrived : g.arrived ≡ f.arrived
  pub agrees : (w : Meaning) → m ≡ over w (listed f) → m' ≡ over w (listed g)
