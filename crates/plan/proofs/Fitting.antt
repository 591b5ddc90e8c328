-- Every plan is within its ranges.
use Rattle.std.proofs.Common.{◌≡◌, true, length, vec_items, vec_len, subst, arith}
use Rattle.plan.specs.declared.road_plan.Plan.{Plan}
use Rattle.plan.specs.Content.{Fits, content}
use Rattle.plan.specs.Ranges.{closures_fit}

pub plan_fits : (p : Plan) → Fits (content p)
plan_fits p =
    let segments : vec_len p.segments ≡ length (vec_items p.segments) = p.segments.ok.0 in
    let closures : vec_len p.closures ≡ length (vec_items p.closures) = p.closures.ok.0 in
    record {
      settings_in_range = p.settings_in_range;
      segments_in_range = p.segments_in_range;
      closures_in_range =
          subst (λ n. closures_fit p.settings n (vec_items p.closures) ≡ true) segments p.closures_in_range;
      few_segments = let few = p.few_segments in omega arith;
      few_closures = let few = p.few_closures in omega arith;
    }
