-- Room in the first slots that a leg would hold.
use Rattle.std.specs.Prelude.{ℕ, ◌+◌, Bool, nat_lt}
use Rattle.book.specs.Below.{all_below}
use Rattle.book.specs.Loads.{load}
use Rattle.book.specs.Meaning.{Meaning}
use Rattle.book.specs.declared.legs.Leg.{Leg}

-- the load of each of the first n slots is below a limit
unfoldable pub room_below : Meaning → Leg → ℕ → ℕ → Bool
room_below m l limit n = all_below n (λ k. nat_lt (load m l.segment (l.entry + k)) limit)
