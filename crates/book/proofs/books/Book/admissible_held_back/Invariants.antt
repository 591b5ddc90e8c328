use Rattle.std.proofs.Common.{◌≡◌, ◌-◌, true}
use Rattle.book.specs.Loads.{load}
use Rattle.book.specs.Rooms.{room_below}
use Rattle.book.proofs.books.Book.admissible_held_back.Given as goal

abbrev pub invariant-loop-slot : goal.invariant-loop-slot
invariant-loop-slot g l =
    let m = g.Self.Book.meaning l.self in
    (l.load ≡ load m l.leg.segment l.slot)
    × (room_below m l.leg l.limit (l.slot - l.leg.entry) ≡ true)
