-- What comes of lists of calls.
use Rattle.std.specs.Prelude.{◌≡◌, List, map}
use Rattle.book.specs.Meaning.{Meaning, total}
use Rattle.bookings.specs.Owed.{all_counted, owed}
use Rattle.bookings.specs.States.{arrivals, withdrawals}
use Rattle.bookings.specs.Steps.{listed}
use Rattle.bookings.specs.declared.calls.Call.{Call}
use Rattle.bookings.specs.declared.calls.Exchange.{Exchange}
use Rattle.bookings.specs.declared.register.Register.{Register}
use Rattle.histories.specs.Parked.{parked}
use Rattle.histories.specs.Promise.{Promise, SameAnswers, grants}

-- from a book w, all the calls are made, in their order; the controller is left with a book m and a register g
pub record Rehearsed (w : Meaning) (calls : List Call) (m : Meaning) (g : Register) (history : List Exchange)
    : Type 0 where
  pub made : map (λ x. x.call) history ≡ calls
  -- the register lists what is owed, each token parked, and has counted it
  pub lists : listed g ≡ parked (owed history)
  pub granted : g.last ≡ grants history
  pub withdrawn : g.withdrawn ≡ all_counted withdrawals history
  pub arrived : g.arrived ≡ all_counted arrivals history
  -- and where no leg stood at first, all that is promised holds
  pub promise : total w ≡ 0 → Promise w history m

-- the same of two, and what the two promise together
pub record BothRehearsed
    (w v : Meaning) (calls others : List Call)
    (m : Meaning) (g : Register) (history : List Exchange)
    (n : Meaning) (f : Register) (other : List Exchange)
    : Type 0 where
  pub first : Rehearsed w calls m g history
  pub second : Rehearsed v others n f other
  pub same : total w ≡ 0 → total v ≡ 0 → SameAnswers w history v other
