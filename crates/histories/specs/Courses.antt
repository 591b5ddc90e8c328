-- What is kept from call to call while a list of calls is made.
use Rattle.std.specs.Prelude.{◌≡◌, ℕ, List, [], ◌∷◌}
use Rattle.book.specs.Loads.{Within}
use Rattle.book.specs.Meaning.{Meaning}
use Rattle.bookings.specs.Answers.{Answers}
use Rattle.bookings.specs.Owed.{after, all_counted, last_number, number_after, over, owed}
use Rattle.bookings.specs.States.{arrivals, withdrawals}
use Rattle.bookings.specs.Steps.{Step, listed}
use Rattle.bookings.specs.declared.calls.Answer.{Answer}
use Rattle.bookings.specs.declared.calls.Call.{Call}
use Rattle.bookings.specs.declared.calls.Call.TheVariants as call
use Rattle.bookings.specs.declared.calls.Exchange.{Exchange}
use Rattle.bookings.specs.declared.register.Register.{Register}
use Rattle.bookings.specs.declared.states.Booking.{Booking}
use Rattle.histories.specs.Promise.{act_answer, grants}

-- an act is done, refused or not made as the bookings have it
abbrev pub Told : List Booking → Call → Answer → Type 0
Told bs (call.Ask q room) a = Unit {0}
Told bs (call.Act act n) a = a ≡ act_answer bs act n

-- from the bookings bs and the last number k on, each answer is the one defined, and all loads stay within the counts
abbrev pub Course : Meaning → List Booking → ℕ → List Exchange → Type 0
Course w bs k [] = Within (over w bs)
Course w bs k (x ∷ xs) =
    Within (over w bs)
    × Answers (over w bs) bs k x.call x.answer
    × Told bs x.call x.answer
    × Course w (after x.call x.answer bs) (number_after x.answer k) xs

-- after the exchanges xs the register is g
pub record Recorded (g : Register) (xs : List Exchange) : Type 0 where
  pub owes : listed g ≡ owed xs
  pub numbers : g.last ≡ last_number 0 xs
  pub granted : g.last ≡ grants xs
  pub withdrawn : g.withdrawn ≡ all_counted withdrawals xs
  pub arrived : g.arrived ≡ all_counted arrivals xs

-- after them a book that began as w means m
pub record Going (w m : Meaning) (xs : List Exchange) : Type 0 where
  pub agrees : m ≡ over w (owed xs)
  pub course : Course w [] 0 xs

-- one call: a step of the controller, and of an act the answer that the bookings have
pub record Made (m : Meaning) (g : Register) (c : Call) (a : Answer) (m' : Meaning) (g' : Register) : Type 0 where
  pub step : Step m g c a m' g'
  pub told : Told (listed g) c a
