use Rattle.std.proofs.Common.{arith}
use Rattle.book.proofs.Entering.{none_yet}
use Rattle.layers.specs.Closures.{kept_closures}
use Rattle.layers.proofs.Closed.{none_left, none_until_open, open_is_next}
use Rattle.layers.proofs.closures.layer.ClosureLayerBook.next_entry_held_back.Goals as goal

pub loop-slot-init : goal.loop-slot-init
loop-slot-init g c = (omega arith, none_yet _ _ c.args.from)

pub returns-in_default-barred_until : goal.returns-in_default-barred_until
returns-in_default-barred_until g c =
    let layer = c.args.self.now in
    open_is_next c.args.held (kept_closures layer) (g.B.Book.meaning layer.below) c.args.segment c.args.from
    c.loop-slot.first c.in-Some.slot c.loop-slot.invariant.0 c.loop-slot.invariant.1 c.in-Some.ensures
    c.in_default-barred_until.ensures

pub loop-slot-preserved : goal.loop-slot-preserved
loop-slot-preserved g c =
    let layer = c.args.self.now in
    let shut = c.in-Some-barred_until.ensures in
    let later = c.in-Some.ensures.later in (
      omega (arith, shut.0, later, c.loop-slot.invariant.0),
      none_until_open c.args.held (kept_closures layer) (g.B.Book.meaning layer.below) c.args.segment
          c.args.from c.loop-slot.first c.in-Some.slot c.in-Some-barred_until.open c.loop-slot.invariant.1
          c.in-Some.ensures shut,
    )

pub returns : goal.returns
returns g c =
    let layer = c.args.self.now in
    none_left c.args.held (kept_closures layer) (g.B.Book.meaning layer.below) c.args.segment c.args.from
    c.loop-slot.first c.loop-slot.invariant.1 c.in_default.ensures
