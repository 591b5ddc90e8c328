use Rattle.std.proofs.Common.{rules}
use Rattle.bookings.proofs.Reserving.{free_next}
use Rattle.bookings.proofs.legs.free_all.Goals as goal

pub loop-leg-preserved : goal.loop-leg-preserved
loop-leg-preserved g c rest start =
    free_next rest _ _ c.args.legs.now c.loop-leg.leg-index _ c.loop-leg-test.true (search rules)
    c.free.result c.free.ensures.does (c.loop-leg.invariant rest start)
