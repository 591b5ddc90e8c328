-- What it is to relax a segment: where its next entry brings its end a better slot, that goes into the table, and a
-- label into the queue.
use Rattle.std.specs.Prelude.{◌≡◌, ℕ, ◌+◌, ◌<◌, ◌≤◌, true, ◌⊎◌, List, ◌∷◌, slice_set}
use Rattle.std.specs.List.Sorted.{IsPermutation}
use Rattle.book.specs.Entries.{IsNext}
use Rattle.book.specs.Loads.{admissible}
use Rattle.book.specs.Meaning.{Meaning}
use Rattle.walks.specs.Labels.{at, label}
use Rattle.walks.specs.Walks.{from, leg, slots, to}
use Rattle.queue_client.specs.declared.label.Label.{Label}

-- no leg over segment i brings its end a better slot
abbrev pub Enough : Meaning → ℕ → List ℕ → Type 0
Enough m i best =
    (e : ℕ) → at best (from m i) ≤ e → admissible m (leg i e) ≡ true → at best (to m i) ≤ e + slots m i

-- that is so, and the table best and the queue q stay as they are
pub record Kept (m : Meaning) (i : ℕ) (best : List ℕ) (q : List Label)
    (after : List ℕ) (p : List Label) : Type 0 where
  pub enough : Enough m i best
  pub same_table : after ≡ best
  pub same_queue : p ≡ q

-- or its next entry is better: its end's slot in the table goes down, and the queue is p, with one label more
pub record Better (m : Meaning) (i : ℕ) (best : List ℕ) (q : List Label)
    (after : List ℕ) (p : List Label) : Type 0 where
  pub entry : ℕ
  pub next : IsNext m i (at best (from m i)) entry
  pub less : entry + slots m i < at best (to m i)
  pub table : after ≡ slice_set best (to m i) (entry + slots m i)
  pub queue : IsPermutation (label (entry + slots m i) (to m i) ∷ q) p

abbrev pub Relaxed : Meaning → ℕ → List ℕ → List Label → List ℕ → List Label → Type 0
Relaxed m i best q after p = Kept m i best q after p ⊎ Better m i best q after p
