-- What follows for every book, whatever it keeps its legs in.
use Rattle.std.specs.Prelude.{◌≡◌, ℕ, ◌+◌, ◌<◌, true, ◌≢◌, Ok}
use Rattle.book.specs.Calls.{Answer, Freed, Reserved}
use Rattle.book.specs.Loads.{Within, admissible, load}
use Rattle.book.specs.Meaning.{Meaning, horizon, plus, segments, total}
use Rattle.book.specs.declared.legs.Leg.{Leg}

-- a leg changes the loads of no other segment
abbrev pub OtherLoadsStay : Type 0
OtherLoadsStay = (m : Meaning) (l : Leg) (i t : ℕ) → l.segment ≢ i → load (plus m l) i t ≡ load m i t

-- and whether a leg of another segment is admissible
abbrev pub OthersStayAdmissible : Type 0
OthersStayAdmissible =
    (m : Meaning) (l other : Leg) → l.segment ≢ other.segment → admissible (plus m l) other ≡ admissible m other

-- freeing what was reserved is not refused, and gives the meaning back
abbrev pub FreedGivesBack : Type 0
FreedGivesBack =
    (m reserved freed : Meaning) (l : Leg) (r : Answer) → Reserved m l (Ok tt) reserved → Freed reserved l r freed
    → (r ≡ Ok tt) × (freed ≡ m)

-- loads stay within the critical counts where an admissible leg is reserved, and where a leg is freed
abbrev pub WithinStays : Type 0
WithinStays =
    (m : Meaning) (l : Leg) → (Within m → admissible m l ≡ true → Within (plus m l)) × (Within (plus m l) → Within m)

-- a leg of the plan counts one in the total
abbrev pub TotalCounts : Type 0
TotalCounts =
    (m : Meaning) (l : Leg) → l.segment < segments m → l.entry < horizon m → total (plus m l) ≡ total m + 1
