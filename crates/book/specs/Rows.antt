-- A row of entering counts, which has how many legs of one segment enter at each slot.
use Rattle.std.specs.Prelude.{◌≡◌, ℕ, ◌+◌, ◌<◌, ◌≤◌, Bool, true, false, ◌&&◌, ◌⊎◌, List, length, Some, None, Option, nat_le, nat_lt, slice_index}
use Rattle.book.specs.Below.{all_below}
use Rattle.book.specs.Loads.{load_below}
use Rattle.book.specs.Meaning.{Meaning, horizon, road, segments}
use Rattle.book.specs.declared.rows.Row.{Row}

abbrev pub entering : List ℕ → ℕ → ℕ
entering row e = slice_index row e

-- how many legs of the row hold slot t, where each takes u slots
abbrev pub row_load : List ℕ → ℕ → ℕ → ℕ
row_load row u t = load_below (length row) (entering row) u t

-- a leg that enters at e ends by the end of the row, and each slot that it would hold has a load below the limit
unfoldable pub fits : List ℕ → ℕ → ℕ → ℕ → Bool
fits row u limit e = nat_le (e + u) (length row) && all_below u (λ k. nat_lt (row_load row u (e + k)) limit)

pub record IsFirstFit (row : List ℕ) (from to u limit e : ℕ) : Type 0 where
  pub later : from ≤ e
  pub by_then : e ≤ to
  pub here : fits row u limit e ≡ true
  pub first : (k : ℕ) → from ≤ k → fits row u limit k ≡ true → e ≤ k

-- the first entry that fits, of those from `from` to `to`
abbrev pub FirstFit : List ℕ → ℕ → ℕ → ℕ → ℕ → Option ℕ → Type 0
FirstFit row from to u limit (Some e) = IsFirstFit row from to u limit e
FirstFit row from to u limit None = (k : ℕ) → from ≤ k → k ≤ to → fits row u limit k ≡ false

-- no entry from `from` on and below `to` fits
unfoldable pub NoneFits : List ℕ → ℕ → ℕ → ℕ → ℕ → Type 0
NoneFits row u limit from to = (k : ℕ) → from ≤ k → k < to → fits row u limit k ≡ false

-- each slot from `from` on and below `to` has a load below the limit
unfoldable pub Open : List ℕ → ℕ → ℕ → ℕ → ℕ → Type 0
Open row u limit from to = (t : ℕ) → from ≤ t → t < to → row_load row u t < limit

-- the row has how many legs of segment i enter at each slot, its travel slots and its critical count, and the book bars none
-- of its legs
pub record IsRow (m : Meaning) (i : ℕ) (row : Row) : Type 0 where
  pub known : i < segments m
  pub unbarred : (e : ℕ) → m.bars i e ≡ false
  pub long : length row.entering.now ≡ horizon m
  pub counts : (e : ℕ) → m.standing i e ≡ entering row.entering.now e
  pub slots : row.slots ≡ (road m i).slots
  pub limit : row.limit ≡ (road m i).count

-- no leg of segment i stands, and none can be admissible
pub record NoRow (m : Meaning) (i : ℕ) : Type 0 where
  pub empty : (e : ℕ) → m.standing i e ≡ 0
  pub shut : (segments m ≤ i) ⊎ ((e : ℕ) → m.bars i e ≡ true)
