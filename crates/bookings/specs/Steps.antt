-- One call on a controller: from a book m and a register g to m' and g', with the answer a.
use Rattle.std.specs.Prelude.{◌≡◌, ◌+◌, List, vec_items}
use Rattle.book.specs.Meaning.{Meaning}
use Rattle.bookings.specs.Answers.{Answers}
use Rattle.bookings.specs.Owed.{after, counted, number_after, over}
use Rattle.bookings.specs.States.{arrivals, withdrawals}
use Rattle.bookings.specs.declared.calls.Answer.{Answer}
use Rattle.bookings.specs.declared.calls.Call.{Call}
use Rattle.bookings.specs.declared.register.Register.{Register}
use Rattle.bookings.specs.declared.states.Booking.{Booking}

-- the bookings that a register lists
abbrev pub listed : Register → List Booking
listed g = vec_items g.bookings

pub record Step (m : Meaning) (g : Register) (c : Call) (a : Answer) (m' : Meaning) (g' : Register) : Type 0 where
  -- the answer is the one defined on the book and the register just before
  pub answers : Answers m (listed g) g.last c a
  -- the register lists what the call and its answer owe, and counts it
  pub owes : listed g' ≡ after c a (listed g)
  pub numbers : g'.last ≡ number_after a g.last
  pub withdrawn : g'.withdrawn ≡ g.withdrawn + counted withdrawals c a
  pub arrived : g'.arrived ≡ g.arrived + counted arrivals c a
  -- where the book agreed with the register, over whatever plan and bars, it does so still
  pub agrees : (w : Meaning) → m ≡ over w (listed g) → m' ≡ over w (listed g')
