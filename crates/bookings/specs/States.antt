-- What an act needs of a booking, and what it leads to.
use Rattle.std.specs.Prelude.{ℕ, Some, None, Option}
use Rattle.plan.specs.declared.refusals.Refusal.{Refusal}
use Rattle.plan.specs.declared.refusals.Refusal.TheVariants.{NumberNotParked, TokenNotStanding}
use Rattle.bookings.specs.declared.states.Act.{Act}
use Rattle.bookings.specs.declared.states.Act.TheVariants.{
  Arrive,
  Confirm,
  ParkHold,
  ParkPassage,
  TakeUpHold,
  TakeUpPassage,
  Withdraw,
}
use Rattle.bookings.specs.declared.states.State.{State}
use Rattle.bookings.specs.declared.states.State.TheVariants.{Held, HeldParked, UnderWay, UnderWayParked}

-- one number for each state, by which they are told apart
abbrev pub code : State → ℕ
code Held = 0
code HeldParked = 1
code UnderWay = 2
code UnderWayParked = 3

-- the state that a booking must be in
abbrev pub needed : Act → State
needed Confirm = Held
needed Withdraw = Held
needed Arrive = UnderWay
needed ParkHold = Held
needed ParkPassage = UnderWay
needed TakeUpHold = HeldParked
needed TakeUpPassage = UnderWayParked

-- the state that it comes to, or none where it ends
abbrev pub leads_to : Act → Option State
leads_to Confirm = Some UnderWay
leads_to Withdraw = None
leads_to Arrive = None
leads_to ParkHold = Some HeldParked
leads_to ParkPassage = Some UnderWayParked
leads_to TakeUpHold = Some Held
leads_to TakeUpPassage = Some UnderWay

-- the refusal where it is in another state, or does not stand
abbrev pub refusal_of : Act → Refusal
refusal_of Confirm = TokenNotStanding
refusal_of Withdraw = TokenNotStanding
refusal_of Arrive = TokenNotStanding
refusal_of ParkHold = TokenNotStanding
refusal_of ParkPassage = TokenNotStanding
refusal_of TakeUpHold = NumberNotParked
refusal_of TakeUpPassage = NumberNotParked

-- how many withdrawals an act is
abbrev pub withdrawals : Act → ℕ
withdrawals Confirm = 0
withdrawals Withdraw = 1
withdrawals Arrive = 0
withdrawals ParkHold = 0
withdrawals ParkPassage = 0
withdrawals TakeUpHold = 0
withdrawals TakeUpPassage = 0

-- and how many arrivals
abbrev pub arrivals : Act → ℕ
arrivals Confirm = 0
arrivals Withdraw = 0
arrivals Arrive = 1
arrivals ParkHold = 0
arrivals ParkPassage = 0
arrivals TakeUpHold = 0
arrivals TakeUpPassage = 0
