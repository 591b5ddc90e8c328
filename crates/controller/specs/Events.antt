-- The events of the bookings that stand.
use Rattle.std.specs.Prelude.{◌≡◌, ℕ, ◌≤◌, List, [], ◌∷◌, ◌++◌, length, take, drop, Some, None, Option}
use Rattle.std.specs.List.Sorted.{IsSortedWithin, IsPermutation}
use Rattle.book.specs.Meaning.{Meaning}
use Rattle.bookings.specs.declared.states.Booking.{Booking}
pub use Rattle.queue_client.specs.Kinds.{Event, event_before}
use Rattle.queue_client.specs.declared.event.Change.TheVariants.{Departure, End}
use Rattle.search.specs.Routes.{legs_of}
use Rattle.controller.specs.Timings.{timing_of}
use Rattle.controller.specs.declared.timings.Timing.{Timing}

-- the departure and the end of the booking with a number
abbrev pub two_events : ℕ → Option Timing → List Event
two_events n None = []
two_events n (Some t) =
    record { slot = t.departure; change = Departure; number = n }
    ∷ record { slot = t.arrival; change = End; number = n }
    ∷ []

-- of each of the bookings
abbrev pub events_of : Meaning → List Booking → List Event
events_of m [] = []
events_of m (b ∷ bs) = two_events b.number (timing_of m (legs_of b.route)) ++ events_of m bs

-- the first `count` places have the events, whatever their order, and the rest is as it was
pub record Collected (events before after : List Event) (count : ℕ) : Type 0 where
  pub counted : count ≡ length events
  pub fits : count ≤ length after
  pub first : take count after ≡ events
  pub rest : drop count after ≡ drop count before

-- the first `count` places have the events in ascending order, and the rest is as it was
pub record ListsShift (events before after : List Event) (count : ℕ) : Type 0 where
  pub counted : count ≡ length events
  pub shuffled : IsPermutation events (take count after)
  pub ascends : IsSortedWithin event_before (take count after) 0 count
  pub rest : drop count after ≡ drop count before
