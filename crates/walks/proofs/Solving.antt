-- When no label waits any more, the table is solved.
use Rattle.std.proofs.Common.{◌≡◌, ℕ, ◌<◌, ◌≤◌, Bool, true, List, [], ◌∷◌, ap, ⊎_elim, arith}
use Rattle.std.proofs.lemmas.Bool.{cases_Bool}
use Rattle.book.specs.Meaning.{Meaning, Sound, horizon, segments}
use Rattle.book.specs.declared.legs.Leg.{Leg}
use Rattle.book.proofs.Loading.{admitted_known, admitted_within}
use Rattle.walks.specs.Labels.{at, done, far}
use Rattle.walks.specs.Searching.{Searching, Solved}
use Rattle.walks.specs.Walks.{Walk, end_of, from, to}
use Rattle.walks.proofs.Pending.{not_pending}

module _ {m : Meaning} {o t : ℕ} {best : List ℕ} {settled : List Bool} {d v : ℕ}
    (sound : Sound m) (s : Searching m o t best settled [] d v (segments m)) where
  all_settled : (w : ℕ) → w < m.shown.junctions → at best w < far → done settled w ≡ true
  all_settled w known near =
      ⊎_elim
      (λ is. is)
      (λ unsettled. let has = s.waiting w known unsettled near in let within = has.1 in absurd (omega arith))
      (cases_Bool (done settled w))

  -- along a walk the table is never later than the walk
  best_along : (x b w a : ℕ) (legs : List Leg)
      → x < m.shown.junctions → at best x ≤ b → b < far → Walk m x b w a legs → (at best w ≤ a) × (a < far)
  best_along x b w a [] known by near walk =
      let same : at best x ≡ at best w = ap (at best) walk.0 in
      let ends = walk.1 in
      (omega arith, omega arith)
  best_along x b w a (l ∷ legs) known by near walk =
      let takes = walk.0 in
      let i = l.segment in
      let i_known = admitted_known m l takes.fits in
      let within = admitted_within m l takes.fits in
      let low = sound.plan_fits.few_slots in
      let waits = takes.waits in
      let there : done settled (from m i) ≡ true = rw takes.starts (all_settled x known (omega arith)) in
      let start : at best (from m i) ≡ at best x = ap (at best) takes.starts in
      let free = not_pending m settled v (segments m) i there (λ _. i_known) in
      let enough = s.relaxed i i_known free l.entry (omega arith) takes.fits in
      let end_known = (sound.plan_fits.roads_fit i i_known).end_known in
      best_along (to m i) (end_of m l) w a legs end_known enough (omega arith) walk.1

  pub solved : o < m.shown.junctions → t < horizon m → Solved m o t best
  solved o_known early = record {
    bounded = λ w known.
        ⊎_elim
        (λ away. omega arith)
        (λ walk. let below = (never_later w (at best w) walk.0 walk.1).1 in omega arith)
        (s.reached w known);
    earliest = λ w known near.
        ⊎_elim
        (λ away. absurd (omega arith))
        (λ walk. record {
          legs = walk.0;
          walk = walk.1;
          least = λ a legs other. (never_later w a legs other).0;
        })
        (s.reached w known);
    unreached = λ w known away some.
        let later = never_later w some.0 some.1 some.2 in
        let by = later.0 in
        let below = later.1 in
        omega arith;
  }
    where
      never_later : (w a : ℕ) (legs : List Leg) → Walk m o t w a legs → (at best w ≤ a) × (a < far)
      never_later w a legs walk =
          let low = sound.plan_fits.few_slots in
          best_along o t w a legs o_known s.origin (omega arith) walk
