use Rattle.std.proofs.Common.{◌≡◌, true, is_ok, vec_items, vec_len, sym, ◌∙◌, arith}
use Rattle.plan.specs.Ranges.{closures_fit, segments_fit}
use Rattle.plan.proofs.Adding.{closures_fit_among_more, segments_fit_added}
use Rattle.plan.proofs.road_plan.Plan.add_segment.Goals as goal

pub invariant_of-self : goal.invariant_of-self
invariant_of-self c =
    let plan = c.args.self.now in
    let after = c.add.new.parts in
    let segments : segments_fit plan.settings (vec_items after) ≡ true =
    segments_fit_added plan.settings _ c.args.segment (is_ok c.add.result) _ c.add.ensures.grown plan.segments_in_range
    (λ ok. sym c.segment_refusal-refusal.ensures ∙ c.add.ensures.taken ok) in
    let closures : closures_fit plan.settings (vec_len after) (vec_items plan.closures) ≡ true =
    closures_fit_among_more plan.settings (vec_len plan.segments) _ c.add.ensures.more _ plan.closures_in_range in
    record {
      settings_in_range = plan.settings_in_range;
      segments_in_range = segments;
      closures_in_range = closures;
      few_segments = c.add.ensures.few plan.few_segments;
      few_closures = plan.few_closures;
      segment_room = omega arith;
      closure_room = plan.closure_room;
    }
