-- The tie rule as a table of the earliest slots shows it.
use Rattle.std.specs.Prelude.{◌≡◌, ℕ, ◌+◌, ◌-◌, ◌<◌, ◌≤◌, true, List}
use Rattle.book.specs.Loads.{admissible}
use Rattle.book.specs.Meaning.{Meaning, segments}
use Rattle.book.specs.declared.legs.Leg.{Leg}
use Rattle.walks.specs.Labels.{at}
use Rattle.walks.specs.Walks.{from, leg, slots, to}

-- segment i can be the last one into v
pub record TableInto (m : Meaning) (best : List ℕ) (v i : ℕ) : Type 0 where
  pub known : i < segments m
  pub ends : to m i ≡ v
  pub reaches : at best (from m i) + slots m i ≤ at best v
  pub fits : admissible m (leg i (at best v - slots m i)) ≡ true

-- l is the last leg into v, over the lowest-numbered segment that can be, and starts at `start`
pub record TableLast (m : Meaning) (best : List ℕ) (v : ℕ) (l : Leg) (start : ℕ) : Type 0 where
  pub into : TableInto m best v l.segment
  pub lowest : (j : ℕ) → j < l.segment → TableInto m best v j → ⊥
  pub enters : l.entry ≡ at best v - slots m l.segment
  pub starts : start ≡ from m l.segment
