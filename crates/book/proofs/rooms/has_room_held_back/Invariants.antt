use Rattle.std.proofs.Common.{◌≡◌, ◌+◌, true}
use Rattle.book.specs.Rooms.{room_below}
use Rattle.book.proofs.rooms.has_room_held_back.Given as goal

abbrev pub invariant-loop : goal.invariant-loop
invariant-loop g l = record {
  book : l.window.book.now ≡ l.book;
  segment : l.window.segment ≡ l.fn.leg.segment;
  slot : l.window.slot ≡ l.fn.leg.entry + l.counter;
  room : room_below (g.B.Book.meaning l.book) l.fn.leg l.limit l.counter ≡ true;
}
