-- The load of a segment in a slot, and which legs are admissible.
use Rattle.std.specs.Prelude.{ℕ, ◌+◌, ◌≤◌, Bool, cond, not, ◌&&◌, nat_le, nat_lt}
use Rattle.book.specs.Below.{all_below, sum_below}
use Rattle.book.specs.Meaning.{Meaning, horizon, road, segments}
use Rattle.book.specs.declared.legs.Leg.{Leg}

-- a leg that enters at e and takes u slots holds the slots e to e + u - 1
abbrev pub holds : ℕ → ℕ → ℕ → Bool
holds e u t = nat_le e t && nat_lt t (e + u)

-- how many of the legs that enter below n hold slot t, where each takes u slots and `standing` counts them by entry
unfoldable pub load_below : ℕ → (ℕ → ℕ) → ℕ → ℕ → ℕ
load_below n standing u t = sum_below n (λ e. cond (holds e u t) (standing e) 0)

-- how many standing legs of segment i hold slot t
abbrev pub load : Meaning → ℕ → ℕ → ℕ
load m i t = load_below (horizon m) (m.standing i) (road m i).slots t

-- each slot that the leg would hold has a load below the critical count
unfoldable pub has_room : Meaning → Leg → Bool
has_room m l =
    all_below (road m l.segment).slots (λ k. nat_lt (load m l.segment (l.entry + k)) (road m l.segment).count)

-- its segment exists, it ends by the horizon, it is not barred, and it has room
unfoldable pub admissible : Meaning → Leg → Bool
admissible m l =
    nat_lt l.segment (segments m)
    && (nat_le (l.entry + (road m l.segment).slots) (horizon m)
    && (not (m.bars l.segment l.entry) && has_room m l))

-- no segment is above its critical count in any slot
abbrev pub Within : Meaning → Type 0
Within m = (i t : ℕ) → load m i t ≤ (road m i).count
