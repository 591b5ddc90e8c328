-- What the acts of a kind of tokens need and lead to.
use Rattle.std.specs.Prelude.{◌≡◌, refl, Some, None}
use Rattle.plan.specs.declared.refusals.Refusal.TheVariants.{NumberNotParked, TokenNotStanding}
use Rattle.bookings.specs.States.{leads_to, needed, refusal_of}
use Rattle.bookings.specs.declared.states.Act.{Act}
use Rattle.bookings.specs.declared.states.Act.TheVariants.{
  Arrive,
  ParkHold,
  ParkPassage,
  TakeUpHold,
  TakeUpPassage,
  Withdraw,
}
use Rattle.bookings.specs.declared.states.State.{State}
use Rattle.bookings.specs.declared.states.State.TheVariants.{HeldParked, UnderWayParked}

-- while the token is out its booking is in one state, and while it is parked in another; the end needs the first
pub record ActsOfKind (park take_up end : Act) : Type 0 where
  pub parked : State
  pub parks : leads_to park ≡ Some parked
  pub needs_parked : needed take_up ≡ parked
  pub takes_up : leads_to take_up ≡ Some (needed park)
  pub needs_out : needed end ≡ needed park
  pub ends : leads_to end ≡ None
  pub park_refused : refusal_of park ≡ TokenNotStanding
  pub take_up_refused : refusal_of take_up ≡ NumberNotParked
  pub end_refused : refusal_of end ≡ TokenNotStanding

pub acts_of_holds : ActsOfKind ParkHold TakeUpHold Withdraw
acts_of_holds = record {
  parked = HeldParked;
  parks = refl;
  needs_parked = refl;
  takes_up = refl;
  needs_out = refl;
  ends = refl;
  park_refused = refl;
  take_up_refused = refl;
  end_refused = refl;
}

pub acts_of_passages : ActsOfKind ParkPassage TakeUpPassage Arrive
acts_of_passages = record {
  parked = UnderWayParked;
  parks = refl;
  needs_parked = refl;
  takes_up = refl;
  needs_out = refl;
  ends = refl;
  park_refused = refl;
  take_up_refused = refl;
  end_refused = refl;
}
