use Rattle.std.proofs.Common.{◌≡◌, true, is_ok, vec_items, vec_len, sym, ap, ◌∙◌, arith}
use Rattle.plan.specs.Ranges.{closure_rules, closures_fit}
use Rattle.plan.specs.Rules.{first_broken}
use Rattle.plan.proofs.Adding.{closures_fit_added}
use Rattle.plan.proofs.road_plan.Plan.add_closure.Goals as goal

pub invariant_of-self : goal.invariant_of-self
invariant_of-self c =
    let plan = c.args.self.now in
    let after = c.add.new.parts in
    let count = ap (λ n. first_broken (closure_rules plan.settings n c.args.closure)) (sym c.len-segments.ensures) in
    let closures : closures_fit plan.settings (vec_len plan.segments) (vec_items after) ≡ true =
    closures_fit_added plan.settings _ _ c.args.closure (is_ok c.add.result) _ c.add.ensures.grown plan.closures_in_range
    (λ ok. count ∙ sym c.closure_refusal-refusal.ensures ∙ c.add.ensures.taken ok) in
    record {
      settings_in_range = plan.settings_in_range;
      segments_in_range = plan.segments_in_range;
      closures_in_range = closures;
      few_segments = plan.few_segments;
      few_closures = c.add.ensures.few plan.few_closures;
      segment_room = plan.segment_room;
      closure_room = omega arith;
    }
