use Rattle.std.proofs.Common.{◌-◌, ◌≤◌}
use Rattle.book.specs.Entries.{NoneBetween}
use Rattle.book.specs.Layered.{closed, held_back}
use Rattle.layers.specs.Closures.{kept_closures}
use Rattle.layers.proofs.closures.layer.ClosureLayerBook.next_entry_held_back.Given as goal

-- none is admissible from the slot asked for up to where the search goes on
abbrev pub invariant-loop-slot : goal.invariant-loop-slot
invariant-loop-slot g l =
    (l.from ≤ l.first)
    × NoneBetween (held_back l.held (closed (kept_closures l.self) (g.B.Book.meaning l.self.below)))
    l.segment l.from l.first

abbrev pub decreases-loop-slot : goal.decreases-loop-slot
decreases-loop-slot g l = 65536 - l.first
