use Rattle.std.proofs.Common.{rules}
use Rattle.bookings.proofs.Reserving.{reserve_next}
use Rattle.bookings.proofs.legs.reserve_all.Goals as goal

pub loop-leg-preserved : goal.loop-leg-preserved
loop-leg-preserved g c ok =
    reserve_next _ _ _ c.args.legs.now c.loop-leg.leg-index _ c.loop-leg-test.true (search rules)
    c.reserve.result c.reserve.ensures.does ok (c.loop-leg.invariant ok)
