-- What the layers make of the meaning of the book below.
use Rattle.std.specs.Prelude.{ℕ, zero, suc, ◌+◌, ◌-◌, Bool, false, ◌&&◌, ◌||◌, List, [], ◌∷◌, map, length, ◌==◌, nat_le, nat_lt, slice_index_or}
use Rattle.plan.specs.declared.parts.Closure.{Closure}
use Rattle.book.specs.Meaning.{Meaning, Road, Shown, no_road}

-- a closure covers the slots from its first to the one before its end
abbrev pub covers : Closure → ℕ → Bool
covers k t = nat_le k.first t && nat_lt t k.end

-- some number below n passes the test
abbrev pub any_below : ℕ → (ℕ → Bool) → Bool
any_below zero test = false
any_below (suc n) test = any_below n test || test n

-- some closure of segment i covers a slot that a leg of u slots holds
abbrev pub closed_by : List Closure → ℕ → ℕ → ℕ → Bool
closed_by [] i u e = false
closed_by (k ∷ ks) i u e = (k.segment == i && any_below u (λ j. covers k (e + j))) || closed_by ks i u e

-- a closure layer bars what the book below bars, and each leg of a known segment that holds a covered slot
unfoldable pub closing : List Closure → Shown → ℕ → ℕ → Bool
closing ks s i e = nat_lt i (length s.roads) && closed_by ks i (slice_index_or s.roads i no_road).slots e

abbrev pub closed : List Closure → Meaning → Meaning
closed ks m = record {
  shown = m.shown;
  standing = m.standing;
  bars = λ i e. m.bars i e || closing ks m.shown i e;
}

-- a hold-back layer lowers each critical count by a number, not below 0
abbrev pub lower : ℕ → Road → Road
lower held r = record { start = r.start; end = r.end; slots = r.slots; count = r.count - held }

abbrev pub held_back : ℕ → Meaning → Meaning
held_back held m = record {
  shown = record {
    horizon = m.shown.horizon;
    junctions = m.shown.junctions;
    roads = map (lower held) m.shown.roads;
  };
  standing = m.standing;
  bars = m.bars;
}
