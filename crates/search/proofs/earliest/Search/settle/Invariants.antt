use Rattle.std.proofs.Common.{◌≡◌}
use Rattle.walks.proofs.Settling.{Turn}
use Rattle.search.specs.Arrivals.{best, settled as settled_of}
use Rattle.search.proofs.earliest.Search.settle.Given as goal

abbrev pub invariant-loop-segment : goal.invariant-loop-segment
invariant-loop-segment g l = record {
  turn : Turn (g.B.Book.meaning l.initial.self.book.now) l.junction
      (best l.initial.self.arrivals.junctions) l.initial.queue l.segment (best l.self.arrivals.junctions) l.queue;
  settled : settled_of l.self.arrivals.junctions ≡ settled_of l.initial.self.arrivals.junctions;
  book : l.self.book ≡ l.initial.self.book;
}
