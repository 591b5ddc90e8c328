-- A bottom book keeps its legs in memory; over too little memory it keeps none and bars every leg.
use Rattle.std.specs.Prelude.{ℕ, Bool, cond, not, ◌&&◌, length, nat_lt}
use Rattle.book.specs.Meaning.{Meaning, Shown}

-- the book keeps legs, and the plan has the segment and the entry
abbrev pub keeps_at : Shown → Bool → ℕ → ℕ → Bool
keeps_at s kept i e = kept && (nat_lt i (length s.roads) && nat_lt e s.horizon)

-- `held` tells how many legs the memory holds at each segment and entry
abbrev pub bottom : Shown → Bool → (ℕ → ℕ → ℕ) → Meaning
bottom s kept held = record {
  shown = s;
  standing = λ i e. cond (keeps_at s kept i e) (held i e) 0;
  bars = λ i e. not kept;
}

-- no leg stands, and every leg is barred or none is
unfoldable pub no_legs : Shown → Bool → Meaning
no_legs s barred = record { shown = s; standing = λ i e. 0; bars = λ i e. barred }
