-- A chosen route is a walk that ends earliest, and there is at most one.
use Rattle.std.proofs.Common.{◌≡◌, ℕ, ◌<◌, List, [], ◌∷◌, reverse, sym, refl, ap, ◌∙◌, subst, ap₂, ⊎_elim, arith}
use mathlib.Core.List.{reverse-cons, reverse-reverse}
use mathlib.Core.Path.{subst₃}
use Rattle.std.proofs.lemmas.Bool.{cases_order}
use Rattle.book.specs.Meaning.{Meaning, Sound}
use Rattle.book.specs.declared.legs.Leg.{Leg}
use Rattle.walks.specs.Walks.{Chosen, Earliest, Into, Last, Takes, Traced, Walk, end_of, from, leg, slots}
use Rattle.walks.proofs.Walking.{earliest_origin, earliest_unique, walk_push}

module _ (m : Meaning) (o t : ℕ) where
  -- ---- the last leg into a junction

  last_ends : (v : ℕ) (l : Leg) (last : Last m o t v l) → end_of m l ≡ last.arrival
  last_ends v l last = let reaches = last.into.reaches in let enters = last.enters in omega arith

  last_taken : (v : ℕ) (l : Leg) (last : Last m o t v l) → Takes m (from m l.segment) last.into.start_slot l
  last_taken v l last = record {
    fits = rw last.enters last.into.fits;
    starts = refl;
    waits = let reaches = last.into.reaches in let enters = last.enters in omega arith;
  }

  -- it begins where E is smaller
  pub last_rises : Sound m → (v : ℕ) (l : Leg) (last : Last m o t v l) → last.into.start_slot < last.arrival
  last_rises sound v l last =
      let takes = (sound.plan_fits.roads_fit l.segment last.into.known).takes_a_slot in
      let reaches = last.into.reaches in
      omega arith

  last_unique : (v : ℕ) (k l : Leg) → Last m o t v k → Last m o t v l → k ≡ l
  last_unique v k l x y =
      let same : x.arrival ≡ y.arrival = earliest_unique m o t v _ _ x.earliest y.earliest in
      let segment : k.segment ≡ l.segment =
      ⊎_elim
      (λ is. is)
      (⊎_elim
      (λ below. absurd (y.lowest k.segment below (subst (λ a. Into m o t v a k.segment) same x.into)))
      (λ above. absurd (x.lowest l.segment above (subst (λ a. Into m o t v a l.segment) (sym same) y.into))))
      (cases_order k.segment l.segment) in
      let enters = x.enters in
      let others = y.enters in
      let travel : slots m k.segment ≡ slots m l.segment = ap (slots m) segment in
      ap₂ leg segment (omega arith)

  -- ---- the legs from the last one back

  traced_earliest : (v : ℕ) (ls : List Leg) → Traced m o t v ls → (a : ℕ) × Earliest m o t v a
  traced_earliest v [] traced = (t, rw traced (earliest_origin m o t))
  traced_earliest v (l ∷ ls) traced = (traced.1.arrival, traced.1.earliest)

  traced_walk : (v a : ℕ) (ls : List Leg) → Traced m o t v ls → Earliest m o t v a → Walk m o t v a (reverse ls)
  traced_walk v a [] traced earliest =
      (sym traced, earliest_unique m o t o t a (earliest_origin m o t) (rw traced at earliest))
  traced_walk v a (l ∷ ls) traced earliest =
      let last = traced.1 in
      let start = last.into.start_slot in
      let front = traced_walk (from m l.segment) start ls traced.2 last.into.start_earliest in
      subst₃ (Walk m o t)
      last.into.ends
      (last_ends v l last ∙ earliest_unique m o t v last.arrival a last.earliest earliest)
      (sym (reverse-cons l ls))
      (walk_push m o t (from m l.segment) start (reverse ls) l front (last_taken v l last))

  traced_unique : (v : ℕ) (ks ls : List Leg) → Traced m o t v ks → Traced m o t v ls → ks ≡ ls
  traced_unique v [] [] x y = refl
  traced_unique v [] (l ∷ ls) x y = absurd (y.0 x)
  traced_unique v (k ∷ ks) [] x y = absurd (x.0 y)
  traced_unique v (k ∷ ks) (l ∷ ls) x y =
      let same = last_unique v k l x.1 y.1 in
      let rest : ks ≡ ls =
      traced_unique (from m k.segment) ks ls x.2
      (subst (λ (z : Leg). Traced m o t (from m z.segment) ls) (sym same) y.2) in
      cc

  -- ---- the chosen route

  pub chosen_walk : (v : ℕ) (legs : List Leg) → Chosen m o t v legs
      → (a : ℕ) × Walk m o t v a legs × Earliest m o t v a
  chosen_walk v legs chosen =
      let earliest = traced_earliest v (reverse legs) chosen in (
        earliest.0,
        subst (Walk m o t v earliest.0) (reverse-reverse legs)
            (traced_walk v earliest.0 (reverse legs) chosen earliest.1),
        earliest.1,
      )

  pub chosen_unique : (v : ℕ) (legs others : List Leg) → Chosen m o t v legs → Chosen m o t v others → legs ≡ others
  chosen_unique v legs others x y =
      sym (reverse-reverse legs)
      ∙ ap reverse (traced_unique v (reverse legs) (reverse others) x y)
      ∙ reverse-reverse others
