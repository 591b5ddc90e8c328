use Rattle.std.proofs.Common.{◌-◌, length}
use Rattle.plan.specs.Limits.{most_junctions}
use Rattle.walks.proofs.Tracing.{Tracing}
use Rattle.search.specs.Arrivals.{best}
use Rattle.search.specs.Routes.{legs_of}
use Rattle.search.proofs.earliest.Search.trace_back.Given as goal

abbrev pub invariant-loop-junction : goal.invariant-loop-junction
invariant-loop-junction g l =
    Tracing (g.B.Book.meaning l.self.book.now) l.request.origin l.request.slot l.request.destination
    (best l.self.arrivals.junctions) (legs_of l.route) l.junction

abbrev pub decreases-loop-junction : goal.decreases-loop-junction
decreases-loop-junction g l = most_junctions - length (legs_of l.route)
