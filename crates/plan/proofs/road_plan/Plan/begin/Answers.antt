use Rattle.std.proofs.Common.{◌≡◌, None, refl, arith, rules}
use Rattle.plan.specs.Ranges.{closures_fit, segments_fit, settings_fit, settings_rules}
use Rattle.plan.specs.Rules.{first_broken}
use Rattle.plan.proofs.Ruling.{all_kept}
use Rattle.plan.proofs.road_plan.Plan.begin.Goals as goal

pub invariant_of-result : goal.invariant_of-result
unfolding settings_fit segments_fit closures_fit
invariant_of-result c =
    let none : first_broken (settings_rules c.args.settings) ≡ None = search rules in
    let segments = c.in_ok-segments.ensures in
    let closures = c.in_ok-closures.ensures in
    record {
      settings_in_range = all_kept (settings_rules c.args.settings) none;
      segments_in_range = rw segments.items refl;
      closures_in_range = rw closures.items refl;
      few_segments = omega arith;
      few_closures = omega arith;
      segment_room = omega arith;
      closure_room = omega arith;
    }
