-- What is known of the junctions while a search runs, as the theory of the search has it: two tables.
use Rattle.std.specs.Prelude.{◌≡◌, ℕ, ◌<◌, Bool, List, map, Some, None, Option}
use Rattle.std.specs.Option.{ForSome}
use Rattle.walks.specs.Labels.{at, far}
use Rattle.search.specs.declared.arrivals.Arrival.{Arrival}

-- a slot, or `far` where no walk is known
abbrev pub or_far : Option ℕ → ℕ
or_far (Some s) = s
or_far None = far

-- the best slot so far of each junction
abbrev pub best : List Arrival → List ℕ
best arrivals = map (λ a. or_far a.slot) arrivals

-- which junctions are settled
abbrev pub settled : List Arrival → List Bool
settled arrivals = map (λ a. a.settled) arrivals

-- a slot that is known is below `far`
abbrev pub near : Arrival → Type 0
near a = ForSome a.slot (λ s. s < far)

-- the slot in the table at v, if it is that of a walk
abbrev pub ReachedAt : List ℕ → ℕ → Option ℕ → Type 0
ReachedAt table v (Some s) = (s ≡ at table v) × (s < far)
ReachedAt table v None = at table v ≡ far
