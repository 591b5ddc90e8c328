-- What a row of standing numbers means: one segment below a horizon of 20.
use Rattle.std.specs.Prelude.{ℕ, false, cond, ◌&&◌, List, [], ◌∷◌, ◌==◌, nat_lt, slice_index}
use Rattle.book.specs.Meaning.{Meaning, Road}

abbrev pub row_road : ℕ → ℕ → Road
row_road slots limit = record { start = 0; end = 1; slots = slots; count = limit }

abbrev pub row_standing : List ℕ → ℕ → ℕ → ℕ
row_standing row i e = cond (i == 0 && nat_lt e 20) (slice_index row e) 0

abbrev pub row_meaning : ℕ → ℕ → List ℕ → Meaning
row_meaning slots limit row = record {
  shown = record { horizon = 20; junctions = 2; roads = row_road slots limit ∷ [] };
  standing = row_standing row;
  bars = λ i e. false;
}
