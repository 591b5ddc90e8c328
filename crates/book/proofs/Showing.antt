-- What a plan shows is in range, and is what a book keeps of it.
use Rattle.std.proofs.Common.{◌≡◌, ℕ, ◌+◌, ◌<◌, ◌≤◌, true, not, ◌&&◌, eqb, ltb, leb, List, [], ◌∷◌, ◌++◌, length, get_or, take, Some, sym, ap, ◌∙◌, subst, arith}
use Rattle.std.proofs.lemmas.List.{get_or-map, length-map, map-append, take_more}
use Rattle.std.proofs.lemmas.Option.{get_or_from_slice_get, slice_get-get_or, slice_get_within}
use Rattle.std.proofs.lemmas.Bool.{and_parts, eq-eqb, leb-true, ltb-true, true≢false}
use Rattle.std.specs.List.{slice_get}
use Rattle.plan.proofs.Adding.{travel_at_most}
use Rattle.plan.proofs.Ruling.{every_nth}
use Rattle.plan.specs.Content.{Content, Fits}
use Rattle.plan.specs.Critical.{critical}
use Rattle.plan.specs.Limits.{most_junctions, most_slots}
use Rattle.plan.specs.Ranges.{joined, measured, segment_rules, segments_fit, settings_fit, settings_rules, within}
use Rattle.plan.specs.Rules.{keeps}
use Rattle.plan.specs.Travel.{travel}
use Rattle.plan.specs.declared.parts.Segment.{Segment}
use Rattle.plan.specs.declared.parts.Settings.{Settings}
use Rattle.book.specs.Meaning.{Road, RoadFits, no_road}
use Rattle.book.specs.Shown.{plan_shown, road_in, road_of, roads_of}
use Rattle.book.specs.declared.numbers.SegmentNumbers.{SegmentNumbers}

-- ---- what is kept

pub roads_length : (numbers : List SegmentNumbers) → length (roads_of numbers) ≡ length numbers
roads_length numbers = length-map numbers road_of

-- the numbers of the next segment
pub kept_more : (rs : List Road) (numbers : List SegmentNumbers) (i : ℕ) (n : SegmentNumbers) → roads_of numbers ≡ take i rs
    → Some (road_of n) ≡ slice_get rs i → roads_of (numbers ++ n ∷ []) ≡ take (i + 1) rs
kept_more rs numbers i n kept next =
    map-append road_of numbers (n ∷ [])
    ∙ ap (λ xs. xs ++ road_of n ∷ []) kept
    ∙ ap (λ r. take i rs ++ r ∷ []) (sym (get_or_from_slice_get rs i (road_of n) no_road (sym next)))
    ∙ sym (take_more rs i no_road (slice_get_within rs i (road_of n) (sym next)))

-- ---- what a plan shows is in range

in_range : (low high n : ℕ) → within low high n ≡ true → (low ≤ n) × (n ≤ high)
in_range low high n fit =
    let parts = and_parts (leb low n) (leb n high) fit in
    (leb-true low n parts.0, leb-true n high parts.1)

road_fits : (s : Settings) (g : Segment) → keeps (segment_rules s g) ≡ true → RoadFits s.junctions (road_in s g)
unfolding segment_rules travel critical
road_fits s g fit =
    let join = (and_parts (joined s g) (measured g) (and_parts (joined s g && measured g) _ fit).0).0 in
    let start = and_parts (ltb g.start s.junctions) _ join in
    let end = and_parts (ltb g.end s.junctions) (not (eqb g.start g.end)) start.1 in
    record {
      start_known = ltb-true g.start s.junctions start.0;
      end_known = ltb-true g.end s.junctions end.0;
      no_loop = λ same. true≢false (sym end.1 ∙ ap not (eq-eqb g.start g.end same));
      takes_a_slot = omega arith;
      few_slots = travel_at_most s g fit;
      small_count = omega arith;
    }

pub shown_fit : (c : Content) → Fits c → (i : ℕ) → i < length (plan_shown c).roads
    → RoadFits c.settings.junctions (get_or (plan_shown c).roads i no_road)
unfolding segments_fit
shown_fit c fits i within =
    let s = c.settings in
    let none : Segment = record { start = 0; end = 0; length = 0; lanes = 0; class = 0 } in
    let g = get_or c.segments i none in
    let known : i < length c.segments = omega (arith, within, length-map c.segments (road_in s)) in
    let keep = every_nth (λ h. keeps (segment_rules s h)) c.segments i g fits.segments_in_range
    (slice_get-get_or c.segments i none known) in
    subst (RoadFits s.junctions) (sym (get_or-map (road_in s) c.segments i none no_road known)) (road_fits s g keep)

pub record SizesFit (s : Settings) : Type 0 where
  pub some_slot : 1 ≤ s.horizon
  pub few_slots : s.horizon ≤ most_slots
  pub two_junctions : 2 ≤ s.junctions
  pub few_junctions : s.junctions ≤ most_junctions

pub sizes_fit : (s : Settings) → settings_fit s ≡ true → SizesFit s
unfolding settings_fit settings_rules
sizes_fit s fit =
    let behind_length = (and_parts (within 1 65535 s.slot_length) _ fit).1 in
    let behind_density = (and_parts (within 0 65535 s.density) _ behind_length).1 in
    let at_horizon = and_parts (within 1 most_slots s.horizon) _ behind_density in
    let at_junctions = and_parts (within 2 most_junctions s.junctions) true at_horizon.1 in
    let horizon = in_range 1 most_slots s.horizon at_horizon.0 in
    let junctions = in_range 2 most_junctions s.junctions at_junctions.0 in
    record {
      some_slot = horizon.0;
      few_slots = horizon.1;
      two_junctions = junctions.0;
      few_junctions = junctions.1;
    }
