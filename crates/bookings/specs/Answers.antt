-- The answer to each call, on what the book means and the bookings that stand just before it.
use Rattle.std.specs.Prelude.{◌≡◌, ℕ, ◌+◌, ◌<◌, ◌≤◌, true, false, cond, ◌⊎◌, List, length, Ok, Err, Result, nat_lt}
use Rattle.plan.specs.Limits.{most_bookings, most_legs, most_numbers}
use Rattle.plan.specs.declared.refusals.Refusal.{Refusal}
use Rattle.plan.specs.declared.refusals.Refusal.TheVariants as refusal
use Rattle.book.specs.Meaning.{Meaning, total}
use Rattle.book.specs.declared.legs.Leg.{Leg}
use Rattle.search.specs.Finds.{Granted, Hopeless}
use Rattle.search.specs.Requests.{checks}
use Rattle.search.specs.Routes.{legs_of}
use Rattle.search.specs.declared.route.Route.{Route}
use Rattle.walks.specs.declared.requests.Request.{Request}
use Rattle.bookings.specs.Owed.{stands}
use Rattle.bookings.specs.States.{needed, refusal_of}
use Rattle.bookings.specs.declared.calls.Answer.{Answer}
use Rattle.bookings.specs.declared.calls.Answer.TheVariants as answer
use Rattle.bookings.specs.declared.calls.Call.{Call}
use Rattle.bookings.specs.declared.calls.Call.TheVariants as call
use Rattle.bookings.specs.declared.states.Act.{Act}
use Rattle.bookings.specs.declared.states.Booking.{Booking}

-- ---- requests

-- 15 where all numbers have been given, else 16 where as many bookings stand as may; n bookings stand and k is the last
-- number given
abbrev pub vacancy : ℕ → ℕ → Result (Unit {0}) Refusal
vacancy n k =
    cond (nat_lt k most_numbers)
    (cond (nat_lt n most_bookings) (Ok tt) (Err refusal.BookingsFull))
    (Err refusal.NumbersUsedUp)

-- 11 to 14 of the request itself, else 15 or 16
abbrev pub before_search : Meaning → ℕ → ℕ → Request → ℕ → Result (Unit {0}) Refusal
before_search m n k q room = past (checks m q room)
  where
    past : Result (Unit {0}) Refusal → Result (Unit {0}) Refusal
    past (Err x) = Err x
    past (Ok _) = vacancy n k

-- the route that is granted
pub record Grants (m : Meaning) (n k : ℕ) (q : Request) (room : ℕ) (legs : List Leg) : Type 0 where
  pub passes : before_search m n k q room ≡ Ok tt
  pub granted : Granted m q legs
  pub fits : total m + length legs ≤ most_legs

-- 17 where no walk exists, 18 where the legs of the route would bring the total above what a book may have
abbrev pub SearchRefuses : Meaning → Request → Refusal → Type 0
SearchRefuses m q x =
    (Hopeless m q × (x ≡ refusal.NoWalk))
    ⊎ ((legs : List Leg) × Granted m q legs × (most_legs < total m + length legs) × (x ≡ refusal.TooManyLegs))

abbrev pub Refuses : Meaning → ℕ → ℕ → Request → ℕ → Refusal → Type 0
Refuses m n k q room x =
    (before_search m n k q room ≡ Err x) ⊎ ((before_search m n k q room ≡ Ok tt) × SearchRefuses m q x)

-- a route where one is granted, and else the refusal
abbrev pub Decision : Meaning → ℕ → ℕ → Request → ℕ → Result Route Refusal → Type 0
Decision m n k q room (Ok route) = Grants m n k q room (legs_of route)
Decision m n k q room (Err x) = Refuses m n k q room x

-- numbers count up by one
abbrev pub Decided : Meaning → List Booking → ℕ → Request → ℕ → Answer → Type 0
Decided m bs k q room (answer.Granted n r) = (n ≡ k + 1) × Grants m (length bs) k q room (legs_of r)
Decided m bs k q room (answer.Refused x) = Refuses m (length bs) k q room x
Decided m bs k q room answer.Done = ⊥
Decided m bs k q room answer.NoToken = ⊥

-- ---- acts

-- done where the booking stands in the state that the act needs, and refused elsewhere; not made, for want of its
-- token, only where the booking does not stand so
abbrev pub Moves : List Booking → ℕ → Act → Answer → Type 0
Moves bs n act (answer.Granted k r) = ⊥
Moves bs n act answer.Done = stands n (needed act) bs ≡ true
Moves bs n act (answer.Refused x) = (stands n (needed act) bs ≡ false) × (x ≡ refusal_of act)
Moves bs n act answer.NoToken = stands n (needed act) bs ≡ false

abbrev pub Answers : Meaning → List Booking → ℕ → Call → Answer → Type 0
Answers m bs k (call.Ask q room) a = Decided m bs k q room a
Answers m bs k (call.Act act n) a = Moves bs n act a
