-- Worked routes: a table of slots is solved if no leg betters it and each slot is reached, which a finite test shows.
use Rattle.std.proofs.Common.{◌≡◌, ℕ, zero, suc, ◌+◌, ◌-◌, ◌<◌, ◌≤◌, Bool, true, false, not, ◌||◌, eqb, leb, ◌≢◌, List, [], ◌∷◌, length, get_or, replicate, sym, refl, ◌∙◌, subst, inr, arith}
use Rattle.std.proofs.lemmas.List.{get_or-replicate, length-replicate}
use Rattle.std.proofs.lemmas.Bool.Decides.{nat_tests}
use Rattle.std.proofs.lemmas.Bool.{both_ways, le-leb, leb-true, ne_eqb}
use Rattle.plan.specs.Limits.{most_legs}
use Rattle.book.specs.Below.{all_below}
use Rattle.book.specs.Layered.{closing}
use Rattle.book.specs.Loads.{admissible, has_room, load_below}
use Rattle.book.specs.Meaning.{Meaning, RoadFits, Sound, horizon, no_road, plus, segments, total}
use Rattle.book.specs.declared.legs.Leg.{Leg}
use Rattle.book.proofs.Loading.{admitted_known, admitted_within, total_counts}
use Rattle.book.proofs.Sums.{all_at}
use Rattle.walks.specs.Examples.{Worked, WorkedRoutes, after_first, after_second, example}
use Rattle.walks.specs.Labels.{at, far}
use Rattle.walks.specs.Relaxed.{Enough}
use Rattle.walks.specs.Searching.{Solved}
use Rattle.walks.specs.Tables.{TableLast}
use Rattle.walks.specs.Walks.{Last, Takes, Walk, from, leg, slots, to}
use Rattle.walks.proofs.Solving.{solved}
use Rattle.walks.proofs.Tables.{table_last}

-- no leg over segment i, entered at e, brings its end a better slot
abbrev betters_none : Meaning → List ℕ → ℕ → ℕ → Bool
betters_none m best i e =
    not (admissible m (leg i e)) || (not (leb (at best (from m i)) e) || leb (at best (to m i)) (e + slots m i))

abbrev nothing_better : Meaning → List ℕ → Bool
nothing_better m best = all_below (segments m) (λ i. all_below (horizon m) (betters_none m best i))

enough : (m : Meaning) → Sound m → (best : List ℕ) → nothing_better m best ≡ true → (i : ℕ) → i < segments m → Enough m i best
enough m sound best none i known e later fits =
    let within = admitted_within m (leg i e) fits in
    let takes = (sound.plan_fits.roads_fit i known).takes_a_slot in
    let test = all_at (horizon m) (betters_none m best i) e
    (all_at (segments m) (λ j. all_below (horizon m) (betters_none m best j)) i none known) (omega arith) in
    let before = le-leb (at best (from m i)) e later in
    leb-true (at best (to m i)) (e + slots m i) (grind (arith, test, before, fits))

pub table_solved : (m : Meaning) → Sound m → (o t : ℕ) (best : List ℕ)
    → o < m.shown.junctions → t < horizon m → length best ≡ m.shown.junctions → at best o ≤ t
    → ((w : ℕ) → w < m.shown.junctions → (at best w < far) × ((legs : List Leg) × Walk m o t w (at best w) legs))
    → nothing_better m best ≡ true → Solved m o t best
table_solved m sound o t best known early long origin reached none =
    solved {settled = replicate m.shown.junctions true} {d = 65534} {v = 0} sound (record {
      best_long = omega arith;
      settled_long = omega (arith, length-replicate m.shown.junctions true);
      slot_low = omega arith;
      origin = origin;
      reached = λ w w_known. inr (reached w w_known).1;
      behind = λ w w_known _. let near = (reached w w_known).0 in omega arith;
      waiting = λ w w_known unsettled near.
          absurd (both_ways _ unsettled (get_or-replicate m.shown.junctions w true false w_known));
      ahead = tt;
      relaxed = λ i i_known _. enough m sound best none i i_known;
    }) known early

-- segment i cannot be the last one into v
abbrev not_last : Meaning → List ℕ → ℕ → ℕ → Bool
not_last m best v i = not (eqb (to m i) v) || not (leb (at best (from m i) + slots m i) (at best v))

-- segment i is the last one into v where none below it can be, which a finite test shows
lowest_last : (m : Meaning) (best : List ℕ) (v i : ℕ) → i < segments m → to m i ≡ v
    → at best (from m i) + slots m i ≤ at best v → admissible m (leg i (at best v - slots m i)) ≡ true
    → all_below i (not_last m best v) ≡ true → TableLast m best v (leg i (at best v - slots m i)) (from m i)
lowest_last m best v i known ends reaches fits none = record {
  into = record { known = known; ends = ends; reaches = reaches; fits = fits };
  lowest = λ j below into.
      let test = all_at i (not_last m best v) j none below in
      let j_ends = into.ends in
      let j_reaches = into.reaches in
      grind (arith, nat_tests);
  enters = refl;
  starts = refl;
}

-- ---- the example

-- what holds of 0 to 3 holds below 4
below_four : (P : ℕ → Type 0) → P 0 → P 1 → P 2 → P 3 → (i : ℕ) → i < 4 → P i
below_four P a b c d zero within = a
below_four P a b c d (suc zero) within = b
below_four P a b c d (suc (suc zero)) within = c
below_four P a b c d (suc (suc (suc zero))) within = d
below_four P a b c d (suc (suc (suc (suc i)))) within = absurd (omega arith)

-- a book that has room for an admissible leg stays sound with it
reserved_sound : (m : Meaning) (l : Leg) → Sound m → admissible m l ≡ true → total m < most_legs → Sound (plus m l)
reserved_sound m l sound fits room =
    let known = admitted_known m l fits in
    let within = admitted_within m l fits in
    let takes = (sound.plan_fits.roads_fit l.segment known).takes_a_slot in
    let entered : l.entry < horizon m = omega arith in
    record {
      plan_fits = sound.plan_fits;
      known_segments = λ i e past.
          let none = sound.known_segments i e past in
          let apart : eqb l.segment i ≡ false = ne_eqb l.segment i (λ same. omega arith) in
          grind (arith, none, apart);
      known_entries = λ i e past.
          let none = sound.known_entries i e past in
          let apart : eqb l.entry e ≡ false = ne_eqb l.entry e (λ same. omega arith) in
          grind (arith, none, apart);
      few_legs = omega (arith, total_counts m l known entered);
    }

road_fits : (start end slots : ℕ) → start < 4 → end < 4 → start ≢ end → 1 ≤ slots → slots ≤ 64
    → RoadFits 4 (record { start = start; end = end; slots = slots; count = 1 })
road_fits start end slots from_known to_known apart some few =
    record {
      start_known = from_known;
      end_known = to_known;
      no_loop = apart;
      takes_a_slot = some;
      few_slots = few;
      small_count = omega arith;
    }

example_sound : Sound example
unfolding total
example_sound = record {
  plan_fits = record {
    some_slot = omega arith;
    few_slots = omega arith;
    two_junctions = omega arith;
    few_junctions = omega arith;
    few_segments = omega arith;
    roads_fit = below_four (λ i. RoadFits 4 (get_or example.shown.roads i no_road))
        (road_fits 0 1 4 (omega arith) (omega arith) (λ same. omega arith) (omega arith) (omega arith))
        (road_fits 1 3 5 (omega arith) (omega arith) (λ same. omega arith) (omega arith) (omega arith))
        (road_fits 0 2 5 (omega arith) (omega arith) (λ same. omega arith) (omega arith) (omega arith))
        (road_fits 2 3 4 (omega arith) (omega arith) (λ same. omega arith) (omega arith) (omega arith));
  };
  known_segments = λ i e past. refl;
  known_entries = λ i e past. refl;
  few_legs = omega arith;
}

after_first_sound : Sound after_first
unfolding admissible has_room load_below closing total
after_first_sound =
    reserved_sound (plus example (leg 0 0)) (leg 1 4)
    (reserved_sound example (leg 0 0) example_sound refl (omega arith)) refl (omega arith)

after_second_sound : Sound after_second
unfolding admissible has_room load_below closing total
after_second_sound =
    reserved_sound (plus after_first (leg 2 0)) (leg 3 5)
    (reserved_sound after_first (leg 2 0) after_first_sound refl (omega arith)) refl (omega arith)

-- a route of two legs over the junctions 0, x and 3, by a solved table
two_legs : (m : Meaning) → Sound m → (best : List ℕ) (x a : ℕ) (l k : Leg) → Solved m 0 0 best → m.shown.junctions ≡ 4
    → x < 4 → x ≢ 0 → at best x < far → at best 3 < far → from m l.segment ≡ 0 → from m k.segment ≡ x
    → TableLast m best x l 0 → TableLast m best 3 k x → Walk m 0 0 3 a (l ∷ k ∷ []) → Worked m a (l ∷ k ∷ [])
two_legs m sound best x a l k table four x_known away x_near near l_starts k_starts first second walk =
    record {
      chosen = (
        (λ same. omega arith),
        table_last table sound 3 (omega arith) near k x second,
        (
          (λ same. away (sym k_starts ∙ same)),
          subst (λ v. Last m 0 0 v l) (sym k_starts) (table_last table sound x (omega arith) x_near l 0 first),
          l_starts,
        ),
      );
      walk = walk;
    }

-- a leg that enters its segment in time
enters : (m : Meaning) (o t : ℕ) (l : Leg) → admissible m l ≡ true → from m l.segment ≡ o → t ≤ l.entry → Takes m o t l
enters m o t l fits starts waits = record { fits = fits; starts = starts; waits = waits }

abbrev Reached : Meaning → List ℕ → ℕ → Type 0
Reached m best w = (at best w < far) × ((legs : List Leg) × Walk m 0 0 w (at best w) legs)

-- ---- the first route

abbrev first_best : List ℕ
first_best = 0 ∷ 4 ∷ 5 ∷ 9 ∷ []

first_walk : Walk example 0 0 3 9 (leg 0 0 ∷ leg 1 4 ∷ [])
unfolding admissible has_room load_below closing
first_walk = (
  enters example 0 0 (leg 0 0) refl refl (omega arith),
  (enters example 1 4 (leg 1 4) refl refl (omega arith), (refl, refl)),
)

first_table : Solved example 0 0 first_best
unfolding admissible has_room load_below closing
first_table =
    table_solved example example_sound 0 0 first_best (omega arith) (omega arith) refl (omega arith)
    (below_four (Reached example first_best)
    (omega arith, ([], (refl, refl)))
    (omega arith, (leg 0 0 ∷ [], (enters example 0 0 (leg 0 0) refl refl (omega arith), (refl, refl))))
    (omega arith, (leg 2 0 ∷ [], (enters example 0 0 (leg 2 0) refl refl (omega arith), (refl, refl))))
    (omega arith, (leg 0 0 ∷ leg 1 4 ∷ [], first_walk)))
    refl

first_route : Worked example 9 (leg 0 0 ∷ leg 1 4 ∷ [])
unfolding admissible has_room load_below closing
first_route =
    two_legs example example_sound first_best 1 9 (leg 0 0) (leg 1 4) first_table refl (omega arith) (λ same. omega arith)
    (omega arith) (omega arith) refl refl
    (lowest_last example first_best 1 0 (omega arith) refl (omega arith) refl refl)
    (lowest_last example first_best 3 1 (omega arith) refl (omega arith) refl refl)
    first_walk

-- ---- the second

abbrev second_best : List ℕ
second_best = 0 ∷ 8 ∷ 5 ∷ 9 ∷ []

second_walk : Walk after_first 0 0 3 9 (leg 2 0 ∷ leg 3 5 ∷ [])
unfolding admissible has_room load_below closing
second_walk = (
  enters after_first 0 0 (leg 2 0) refl refl (omega arith),
  (enters after_first 2 5 (leg 3 5) refl refl (omega arith), (refl, refl)),
)

second_table : Solved after_first 0 0 second_best
unfolding admissible has_room load_below closing
second_table =
    table_solved after_first after_first_sound 0 0 second_best (omega arith) (omega arith) refl (omega arith)
    (below_four (Reached after_first second_best)
    (omega arith, ([], (refl, refl)))
    (omega arith, (leg 0 4 ∷ [], (enters after_first 0 0 (leg 0 4) refl refl (omega arith), (refl, refl))))
    (omega arith, (leg 2 0 ∷ [], (enters after_first 0 0 (leg 2 0) refl refl (omega arith), (refl, refl))))
    (omega arith, (leg 2 0 ∷ leg 3 5 ∷ [], second_walk)))
    refl

second_route : Worked after_first 9 (leg 2 0 ∷ leg 3 5 ∷ [])
unfolding admissible has_room load_below closing
second_route =
    two_legs after_first after_first_sound second_best 2 9 (leg 2 0) (leg 3 5) second_table refl (omega arith)
    (λ same. omega arith) (omega arith) (omega arith) refl refl
    (lowest_last after_first second_best 2 2 (omega arith) refl (omega arith) refl refl)
    (lowest_last after_first second_best 3 3 (omega arith) refl (omega arith) refl refl)
    second_walk

-- ---- the third

abbrev third_best : List ℕ
third_best = 0 ∷ 8 ∷ 10 ∷ 14 ∷ []

third_walk : Walk after_second 0 0 3 14 (leg 0 4 ∷ leg 1 9 ∷ [])
unfolding admissible has_room load_below closing
third_walk = (
  enters after_second 0 0 (leg 0 4) refl refl (omega arith),
  (enters after_second 1 8 (leg 1 9) refl refl (omega arith), (refl, refl)),
)

third_table : Solved after_second 0 0 third_best
unfolding admissible has_room load_below closing
third_table =
    table_solved after_second after_second_sound 0 0 third_best (omega arith) (omega arith) refl (omega arith)
    (below_four (Reached after_second third_best)
    (omega arith, ([], (refl, refl)))
    (omega arith, (leg 0 4 ∷ [], (enters after_second 0 0 (leg 0 4) refl refl (omega arith), (refl, refl))))
    (omega arith, (leg 2 5 ∷ [], (enters after_second 0 0 (leg 2 5) refl refl (omega arith), (refl, refl))))
    (omega arith, (leg 0 4 ∷ leg 1 9 ∷ [], third_walk)))
    refl

third_route : Worked after_second 14 (leg 0 4 ∷ leg 1 9 ∷ [])
unfolding admissible has_room load_below closing
third_route =
    two_legs after_second after_second_sound third_best 1 14 (leg 0 4) (leg 1 9) third_table refl (omega arith)
    (λ same. omega arith) (omega arith) (omega arith) refl refl
    (lowest_last after_second third_best 1 0 (omega arith) refl (omega arith) refl refl)
    (lowest_last after_second third_best 3 1 (omega arith) refl (omega arith) refl refl)
    third_walk

pub worked_routes : WorkedRoutes
worked_routes = record { first = first_route; second = second_route; third = third_route }
