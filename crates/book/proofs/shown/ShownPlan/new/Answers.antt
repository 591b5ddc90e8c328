use Rattle.std.proofs.Common.{◌≡◌, ℕ, length, sym, ap, ◌∙◌, subst, arith, get_or}
use Rattle.std.proofs.lemmas.List.{length-map, take_all}
use Rattle.std.proofs.lemmas.Option.{slice_get-get_or}
use Rattle.std.specs.Option.{option_map}
use Rattle.plan.specs.Content.{content}
use Rattle.book.specs.Meaning.{RoadFits, no_road}
use Rattle.book.specs.Shown.{plan_shown, road_in, road_of, roads_of}
use Rattle.book.proofs.Showing.{kept_more, roads_length, shown_fit, sizes_fit}
use Rattle.book.proofs.shown.ShownPlan.new.Goals as goal
use Rattle.book.proofs.shown.ShownPlan.new.Goals.{in-Some, in_default}

pub loop-number-preserved : goal.loop-number-preserved
loop-number-preserved c =
    let told = content c.args.plan.now in
    let rs = (plan_shown told).roads in
    elim c.match-numbers_of.branch [
      | in-Some w ↦
          ap (λ v. roads_of v.items) w.numbers-is
          ∙ ap roads_of w.push.ensures.items
          ∙ kept_more rs c.loop-number.numbers.items c.loop-number.number w.in-Some.segment c.loop-number.invariant w.in-Some.ensures
      | in_default w ↦
          let none = sym (ap (option_map road_of) w.in_default.is) ∙ c.numbers_of.ensures in
          let some = slice_get-get_or rs c.loop-number.number no_road
          (omega (arith, length-map told.segments (road_in told.settings), c.segment_count-number-end.ensures)) in
          absurd (let z : ◌≡◌ {A = ℕ} 0 1 = cc in omega arith)
    ]

pub invariant_of-result : goal.invariant_of-result
invariant_of-result c =
    let told = content c.args.plan.now in
    let fits = c.settings-settings.ensures.in_range in
    let few = fits.few_segments in
    let rs = (plan_shown told).roads in
    let numbers = c.loop-number.numbers.items in
    let long = length-map told.segments (road_in told.settings) in
    let kept : roads_of numbers ≡ rs =
    c.loop-number.invariant
    ∙ take_all c.loop-number.number rs
    (omega (arith, long, c.segment_count-number-end.ensures, c.loop-number-test.false)) in
    let same : length numbers ≡ length rs = sym (roads_length numbers) ∙ ap length kept in
    let sizes = sizes_fit told.settings fits.settings_in_range in
    let value = c.settings-settings.ensures.value in
    let horizon = ap (λ s. s.horizon) value in
    let junctions = ap (λ s. s.junctions) value in
    record {
      some_slot = omega (arith, horizon, sizes.some_slot);
      few_slots = omega (arith, horizon, sizes.few_slots);
      two_junctions = omega (arith, junctions, sizes.two_junctions);
      few_junctions = omega (arith, junctions, sizes.few_junctions);
      few_segments = omega (arith, same, long, few);
      roads_fit =
          λ i known.
          subst (λ j. RoadFits j (get_or (roads_of numbers) i no_road)) (sym junctions)
          (subst (λ xs. RoadFits told.settings.junctions (get_or xs i no_road)) (sym kept)
          (shown_fit told fits i (omega (arith, same, known))));
    }
