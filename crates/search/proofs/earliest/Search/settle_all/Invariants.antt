use Rattle.std.proofs.Common.{◌≡◌}
use Rattle.queue.specs.Queue.{held}
use Rattle.walks.specs.Searching.{remaining}
use Rattle.walks.proofs.Looping.{Follows}
use Rattle.search.specs.Arrivals.{best, settled}
use Rattle.search.proofs.earliest.Search.settle_all.Given as goal

abbrev pub invariant-loop-label : goal.invariant-loop-label
invariant-loop-label g l = record {
  follows : Follows (g.B.Book.meaning l.initial.self.book.now)
      (best l.initial.self.arrivals.junctions) (settled l.initial.self.arrivals.junctions) l.initial.queue
      (best l.self.arrivals.junctions) (settled l.self.arrivals.junctions) l.queue;
  book : l.self.book ≡ l.initial.self.book;
}

abbrev pub decreases-loop-label : goal.decreases-loop-label
decreases-loop-label g l =
    remaining (g.B.Book.meaning l.initial.self.book.now) (settled l.self.arrivals.junctions) (held l.queue)
