-- The labels of a search, and its two tables.
use Rattle.std.specs.Prelude.{ℕ, Bool, false, List, slice_index, slice_index_or}
pub use Rattle.queue_client.specs.Kinds.{label_before}
use Rattle.queue_client.specs.declared.label.Label.{Label}

-- junction v is reached at slot s
abbrev pub label : ℕ → ℕ → Label
label s v = record { slot = s; junction = v }

-- stands in the table of slots where no walk is known
abbrev pub far : ℕ
far = 65535

-- the best slot so far of a junction
abbrev pub at : List ℕ → ℕ → ℕ
at best v = slice_index best v

-- the junction is settled: its segments are relaxed, or are being relaxed
abbrev pub done : List Bool → ℕ → Bool
done settled v = slice_index_or settled v false
