-- When a route departs and arrives.
use Rattle.std.specs.Prelude.{List, [], ◌∷◌, length, Some, None, Option}
use Rattle.book.specs.Meaning.{Meaning}
use Rattle.book.specs.declared.legs.Leg.{Leg}
use Rattle.walks.specs.Walks.{end_of}
use Rattle.controller.specs.declared.timings.Timing.{Timing}

-- the last of the legs that begin with l
abbrev pub last_leg : Leg → List Leg → Leg
last_leg l [] = l
last_leg l (k ∷ legs) = last_leg k legs

-- none where there is no leg
abbrev pub timing_of : Meaning → List Leg → Option Timing
timing_of m [] = None
timing_of m (l ∷ legs) =
    Some (record { departure = l.entry; arrival = end_of m (last_leg l legs); legs = length (l ∷ legs) })
