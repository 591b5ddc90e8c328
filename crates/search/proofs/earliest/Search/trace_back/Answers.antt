use Rattle.walks.proofs.Tracing.{trace_ends, trace_goes_on, trace_room, trace_step}
use Rattle.search.specs.Arrivals.{best}
use Rattle.search.proofs.Stepping.{some_step, step_is_last}
use Rattle.search.proofs.earliest.Search.trace_back.Goals as goal

pub unwrap-step-requires : goal.unwrap-step-requires
unwrap-step-requires g c =
    some_step (g.B.Book.meaning c.args.self.now.book.now) (best c.args.self.now.arrivals.junctions) c.loop-junction.junction
    c.step_back.result c.step_back.ensures
    (trace_goes_on c.loop-junction.invariant (g.met.B.Book.sound c.args.self.now.book.now) c.requires.solved
    c.requires.origin_known c.loop-junction-test.true)

pub put_first-requires : goal.put_first-requires
put_first-requires g c =
    trace_room c.loop-junction.invariant (g.met.B.Book.sound c.args.self.now.book.now) c.requires.solved c.requires.origin_known
    c.loop-junction-test.true

pub loop-junction-preserved : goal.loop-junction-preserved
loop-junction-preserved g c =
    let m = g.B.Book.meaning c.args.self.now.book.now in
    let step = rw c.unwrap-step.ensures at c.step_back.ensures in
    rw c.put_first.ensures
    (trace_step c.loop-junction.invariant (g.met.B.Book.sound c.args.self.now.book.now) c.requires.solved
    c.requires.origin_known c.loop-junction-test.true c.unwrap-step.result.leg c.unwrap-step.result.start
    (step_is_last m (best c.args.self.now.arrivals.junctions) c.loop-junction.junction step.0 c.unwrap-step.result step.1 step.2))

pub returns : goal.returns
returns g c = trace_ends c.loop-junction.invariant c.loop-junction-test.false
