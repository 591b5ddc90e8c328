-- The route traced back over a solved table is the chosen one.
use Rattle.std.proofs.Common.{◌≡◌, ℕ, ◌<◌, ◌≢◌, List, [], ◌∷◌, ◌++◌, length, sym, ap, subst, arith}
use Rattle.std.proofs.lemmas.List.{append_assoc, append-nil, length-append, reverse-append}
use Rattle.plan.specs.Limits.{most_junctions}
use Rattle.book.specs.Meaning.{Meaning, Sound, segments}
use Rattle.book.specs.declared.legs.Leg.{Leg}
use Rattle.walks.specs.Labels.{at, far}
use Rattle.walks.specs.Searching.{Solved}
use Rattle.walks.specs.Tables.{TableInto, TableLast}
use Rattle.walks.specs.Walks.{Chosen, Last, Traced, from}
use Rattle.walks.proofs.Existence.{earliest_chosen}
use Rattle.walks.proofs.Tables.{some_table_into, table_last}
use Rattle.walks.proofs.Visiting.{chosen_short}

-- the last leg into v goes behind the chosen route to its start
chosen_push : (m : Meaning) (o t v : ℕ) (l : Leg) (front : List Leg)
    → v ≢ o → Last m o t v l → Chosen m o t (from m l.segment) front → Chosen m o t v (front ++ l ∷ [])
chosen_push m o t v l front away last chosen =
    subst (Traced m o t v) (sym (reverse-append front (l ∷ []))) (away, last, chosen)

-- from d the legs lead back to x
pub record Tracing (m : Meaning) (o t d : ℕ) (best : List ℕ) (legs : List Leg) (x : ℕ) : Type 0 where
  pub known : x < m.shown.junctions
  pub near : at best x < far
  pub rest : (front : List Leg) → Chosen m o t x front → Chosen m o t d (front ++ legs)

pub trace_begins : (m : Meaning) (o t d : ℕ) (best : List ℕ) → d < m.shown.junctions → at best d < far
    → Tracing m o t d best [] d
trace_begins m o t d best known near = record {
  known = known;
  near = near;
  rest = λ front chosen. subst (Chosen m o t d) (sym (append-nil front)) chosen;
}

module _ {m : Meaning} {o t d : ℕ} {best : List ℕ} {legs : List Leg} {x : ℕ} (tracing : Tracing m o t d best legs x) where
  -- the origin is reached
  pub trace_ends : x ≡ o → Chosen m o t d legs
  trace_ends here = tracing.rest [] here

  module _ (sound : Sound m) (solved : Solved m o t best) (origin_known : o < m.shown.junctions) (away : x ≢ o) where
    -- a step back is found
    pub trace_goes_on : ((j : ℕ) → j < segments m → TableInto m best x j → ⊥) → ⊥
    trace_goes_on none =
        let some = some_table_into solved sound x tracing.known tracing.near away in
        none some.0 some.1.known some.1

    front_some : (front : List Leg) → Chosen m o t x front → 0 < length front
    front_some [] chosen = absurd (away chosen)
    front_some (l ∷ front) chosen = omega arith

    -- and has a place
    pub trace_room : length legs < most_junctions
    trace_room =
        let earliest = solved.earliest x tracing.known tracing.near in
        let chosen = earliest_chosen m sound o t x (at best x) earliest in
        let front = chosen.0 in
        let few = sound.plan_fits.few_junctions in
        omega (
          arith,
          chosen_short m sound o t d (front ++ legs) origin_known (tracing.rest front chosen.1),
          front_some front chosen.1,
          length-append front legs,
        )

    pub trace_step : (l : Leg) (start : ℕ) → TableLast m best x l start → Tracing m o t d best (l ∷ legs) start
    trace_step l start step =
        let near = tracing.near in
        let reaches = step.into.reaches in
        let start_known = (sound.plan_fits.roads_fit l.segment step.into.known).start_known in
        let same : at best start ≡ at best (from m l.segment) = ap (at best) step.starts in
        let last = table_last solved sound x tracing.known near l start step in
        record {
          known = rw step.starts start_known;
          near = omega arith;
          rest = λ front chosen.
              subst (Chosen m o t d) (append_assoc front (l ∷ []) legs)
              (tracing.rest (front ++ l ∷ [])
              (chosen_push m o t x l front away last (subst (λ w. Chosen m o t w front) step.starts chosen)));
        }
