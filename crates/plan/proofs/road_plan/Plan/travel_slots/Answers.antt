use Rattle.std.proofs.Common.{◌≤◌, sym, arith}
use Rattle.plan.specs.Travel.{travel}
use Rattle.plan.proofs.Adding.{travel_in_plan}
use Rattle.plan.proofs.road_plan.Plan.travel_slots.Goals as goal

pub overflow_cast-result : goal.overflow_cast-result
overflow_cast-result c =
    let plan = c.args.self.now in
    let segment = c.in_ok-segment.segment in
    let short : travel plan.settings segment ≤ 64 =
    travel_in_plan plan.settings _ c.args.number segment plan.segments_in_range
    (sym c.in_ok-segment.ensures) in
    omega arith
