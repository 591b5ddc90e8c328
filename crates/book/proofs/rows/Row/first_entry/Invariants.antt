use Rattle.std.proofs.Common.{◌≡◌, ◌+◌, ◌*◌, ◌<◌, ◌≤◌}
use Rattle.book.specs.Loads.{load_below}
use Rattle.book.specs.Rows.{NoneFits, Open, entering}
use Rattle.book.proofs.rows.Row.first_entry.Given as goal

-- no entry before `first` fits, and the slots from there on have room
abbrev pub invariant-loop-slot : goal.invariant-loop-slot
invariant-loop-slot l =
    (l.load ≡ load_below l.slot (entering l.self.entering.now) l.self.slots l.slot)
    × (l.load ≤ 255 * l.slot)
    × (l.from ≤ l.first)
    × (l.first ≤ l.slot)
    × (l.slot < l.first + l.self.slots)
    × NoneFits l.self.entering.now l.self.slots l.self.limit l.from l.first
    × Open l.self.entering.now l.self.slots l.self.limit l.first l.slot
