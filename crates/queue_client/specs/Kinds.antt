-- The orders of the two kinds. Assumes nothing.
use Rattle.std.specs.Prelude.{ℕ, Bool, nat_lt}
use Rattle.queue.specs.Order.{by_number}
use Rattle.queue_client.specs.declared.event.Change.{Change}
use Rattle.queue_client.specs.declared.event.Change.TheVariants.{End, Departure}
use Rattle.queue_client.specs.declared.event.EventAt.{EventAt}
use Rattle.queue_client.specs.declared.label.Label.{Label}

-- by slot, then by junction
abbrev pub label_before : Label → Label → Bool
label_before a b = by_number a.slot b.slot (nat_lt a.junction b.junction)

abbrev pub rank : Change → ℕ
rank End = 0
rank Departure = 1

-- an event, whatever the width of its slot
abbrev pub Event : Type 0
Event = EventAt ℕ

-- by slot; at one slot ends before departures; then by number
abbrev pub event_before : Event → Event → Bool
event_before a b =
    by_number a.slot b.slot (by_number (rank a.change) (rank b.change) (nat_lt a.number b.number))
