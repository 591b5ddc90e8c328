-- Along a chosen route E rises, so it visits no junction twice, and has fewer legs than there are junctions.
use Rattle.std.proofs.Common.{◌≡◌, ℕ, ◌<◌, ◌≤◌, ◌≢◌, List, [], ◌∷◌, ◌++◌, map, reverse, length, sym, ap, ◌∙◌, subst, arith}
use mathlib.Core.List.{reverse-cons, reverse-reverse}
use Rattle.std.specs.List.{AllByRecursion}
use Rattle.std.proofs.ByRecursion.{All-push, All-weaker}
use Rattle.std.proofs.lemmas.List.{length-map, map_push}
use Rattle.book.specs.Meaning.{Meaning, Sound}
use Rattle.book.specs.declared.legs.Leg.{Leg}
use Rattle.book.proofs.Loading.{admitted_known}
use Rattle.walks.specs.Walks.{Chosen, Different, Earliest, Traced, Walk, end_of, from, segments_of, to, visited}
use Rattle.walks.proofs.Choosing.{chosen_walk, last_rises}
use Rattle.walks.proofs.Differing.{different_from_map, different_push, different_short}
use Rattle.walks.proofs.Walking.{earliest_origin, earliest_unique}

-- one leg more, one junction more
visited_push : (m : Meaning) (o : ℕ) (legs : List Leg) (l : Leg)
    → visited m o (legs ++ l ∷ []) ≡ visited m o legs ++ to m l.segment ∷ []
visited_push m o legs l =
    ap (λ ns. o ∷ map (to m) ns) (map_push (λ (k : Leg). k.segment) legs l)
    ∙ ap (λ ns. o ∷ ns) (map_push (to m) (segments_of legs) l.segment)

visited_back : (m : Meaning) (o : ℕ) (l : Leg) (ls : List Leg)
    → visited m o (reverse (l ∷ ls)) ≡ visited m o (reverse ls) ++ to m l.segment ∷ []
visited_back m o l ls = ap (visited m o) (reverse-cons l ls) ∙ visited_push m o (reverse ls) l

-- E(w) is at most a
record Within (m : Meaning) (o t a w : ℕ) : Type 0 where
  slot : ℕ
  earliest : Earliest m o t w slot
  by : slot ≤ a

module _ (m : Meaning) (sound : Sound m) (o t : ℕ) where
  -- the junctions up to v have E up to E(v)
  traced_within : (v a : ℕ) (ls : List Leg)
      → Traced m o t v ls → Earliest m o t v a → AllByRecursion (Within m o t a) (visited m o (reverse ls))
  traced_within v a [] traced earliest =
      let same = earliest_unique m o t o t a (earliest_origin m o t) (rw traced at earliest) in
      (record { slot = t; earliest = earliest_origin m o t; by = omega arith }, tt)
  traced_within v a (l ∷ ls) traced earliest =
      let last = traced.1 in
      let start = last.into.start_slot in
      let rises = last_rises m o t sound v l last in
      let same = earliest_unique m o t v _ a last.earliest earliest in
      let before = traced_within (from m l.segment) start ls traced.2 last.into.start_earliest in
      let later : AllByRecursion (Within m o t a) (visited m o (reverse ls)) =
      All-weaker (Within m o t start) (Within m o t a)
      (λ w x. record { slot = x.slot; earliest = x.earliest; by = let early = x.by in omega arith })
      (visited m o (reverse ls)) before in
      subst (AllByRecursion (Within m o t a)) (sym (visited_back m o l ls))
      (All-push (Within m o t a) (visited m o (reverse ls)) (to m l.segment) later
      (record { slot = a; earliest = rw last.into.ends earliest; by = omega arith }))

  traced_different : (v : ℕ) (ls : List Leg) → Traced m o t v ls → Different (visited m o (reverse ls))
  traced_different v [] traced = (tt, tt)
  traced_different v (l ∷ ls) traced =
      let last = traced.1 in
      let start = last.into.start_slot in
      let rises = last_rises m o t sound v l last in
      let before = traced_within (from m l.segment) start ls traced.2 last.into.start_earliest in
      let different = traced_different (from m l.segment) ls traced.2 in
      let apart : (w : ℕ) → Within m o t start w → w ≢ to m l.segment =
      λ w x is.
      let early = x.by in
      let here : Earliest m o t v x.slot =
      subst (λ y. Earliest m o t y x.slot) (is ∙ last.into.ends) x.earliest in
      let same = earliest_unique m o t v _ _ here last.earliest in
      omega arith in
      subst Different (sym (visited_back m o l ls))
      (different_push (visited m o (reverse ls)) (to m l.segment) different
      (All-weaker (Within m o t start) (λ w. w ≢ to m l.segment) apart (visited m o (reverse ls)) before))

  pub chosen_visits : (v : ℕ) (legs : List Leg) → Chosen m o t v legs → Different (visited m o legs)
  chosen_visits v legs chosen =
      subst (λ ls. Different (visited m o ls)) (reverse-reverse legs) (traced_different v (reverse legs) chosen)

  pub chosen_segments : (v : ℕ) (legs : List Leg) → Chosen m o t v legs → Different (segments_of legs)
  chosen_segments v legs chosen = different_from_map (to m) (segments_of legs) (chosen_visits v legs chosen).1

  -- ---- its length

  -- the junctions of a walk are known
  walk_known : (x s v a : ℕ) (ls : List Leg)
      → Walk m x s v a ls → AllByRecursion (λ w. w < m.shown.junctions) (map (to m) (segments_of ls))
  walk_known x s v a [] walk = tt
  walk_known x s v a (l ∷ ls) walk = (
    (sound.plan_fits.roads_fit l.segment (admitted_known m l walk.0.fits)).end_known,
    walk_known (to m l.segment) (end_of m l) v a ls walk.1,
  )

  pub chosen_short : (v : ℕ) (legs : List Leg)
      → o < m.shown.junctions → Chosen m o t v legs → length legs < m.shown.junctions
  chosen_short v legs known chosen =
      let walk = chosen_walk m o t v legs chosen in
      let few =
      different_short m.shown.junctions (visited m o legs) (chosen_visits v legs chosen)
      (known, walk_known o t v walk.0 legs walk.1) in
      simp length-map at few
