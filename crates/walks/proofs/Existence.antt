-- Where some walk leads to a junction, E of it and a chosen route to it exist.
use Rattle.std.proofs.Common.{◌≡◌, ℕ, zero, suc, ◌+◌, ◌-◌, ◌<◌, ◌≤◌, true, ◌≢◌, List, [], ◌∷◌, reverse, sym, refl, subst, ⊎_elim, arith}
use mathlib.Core.List.{reverse-reverse}
use mathlib.Core.Path.{subst₃}
use native.Mathlib.Decide.{dec_le, map_dec, ℕ_discrete}
use Rattle.std.proofs.lemmas.Bool.{cases_eq, cases_lt}
use Rattle.book.specs.Loads.{admissible}
use Rattle.book.specs.Meaning.{Meaning, Sound, segments}
use Rattle.book.specs.declared.legs.Leg.{Leg}
use Rattle.book.proofs.Loading.{admitted_known}
use Rattle.walks.specs.Walks.{Chosen, Earliest, Into, Last, Takes, Traced, Walk, from, leg, slots, to}
use Rattle.walks.proofs.Choosing.{last_rises}
use Rattle.walks.proofs.Deciding.{First, dec_and, dec_some, dec_true, find_first}
use Rattle.walks.proofs.Walking.{earliest_unique, last_off, walk_push}

-- some walk is at v by slot n
record Reached (m : Meaning) (o t v n : ℕ) : Type 0 where
  at : ℕ
  legs : List Leg
  by : at ≤ n
  walk : Walk m o t v at legs

-- over segment i, entered at e
record Over (m : Meaning) (o t v n i e : ℕ) : Type 0 where
  ends : to m i ≡ v
  fits : admissible m (leg i e) ≡ true
  by : e + slots m i ≤ n
  before : Reached m o t (from m i) e

module _ (m : Meaning) (sound : Sound m) (o t : ℕ) where
  takes_a_slot : (i : ℕ) → i < segments m → 1 ≤ slots m i
  takes_a_slot i known = (sound.plan_fits.roads_fit i known).takes_a_slot

  -- ---- whether v is reached by slot n is decided, by the slots below n

  reached_over : (v n i e : ℕ) → Over m o t v n i e → Reached m o t v n
  reached_over v n i e over =
      let before = over.before in
      let takes : Takes m (from m i) before.at (leg i e) =
      record { fits = over.fits; starts = refl; waits = before.by } in
      let walk = walk_push m o t (from m i) before.at before.legs (leg i e) before.walk takes in
      record {
        at = e + slots m i;
        legs = _;
        by = over.by;
        walk = subst₃ (Walk m o t) over.ends refl refl walk;
      }

  abbrev SomeOver : ℕ → ℕ → Type 0
  SomeOver v n = (i : ℕ) × (i < segments m) × ((e : ℕ) × (e < suc n) × Over m o t v n i e)

  over_reached : (v n : ℕ) → ((v ≡ o) × (t ≤ n) → ⊥) → Reached m o t v n → SomeOver v n
  over_reached v n away reached = last reached.legs reached.walk
    where
      last : (ls : List Leg) → Walk m o t v reached.at ls → SomeOver v n
      last [] walk = let by = reached.by in absurd (away (sym walk.0, omega arith))
      last (l ∷ ls) walk =
          let off = last_off m o t v reached.at l ls walk in
          let by = reached.by in
          let arrives = off.arrives in
          let i = off.last.segment in
          let e = off.last.entry in
          let before : Reached m o t (from m i) e =
          record { at = off.at; legs = off.front; by = off.waits; walk = off.walk } in
          let over : Over m o t v n i e =
          record { ends = off.ends; fits = off.fits; by = omega arith; before = before } in
          (i, admitted_known m off.last off.fits, (e, omega arith, over))

  dec_over : (v n i e : ℕ) → ((k : ℕ) → k < n → (w : ℕ) → Dec (Reached m o t w k))
      → i < segments m → Dec (Over m o t v n i e)
  dec_over v n i e below known =
      let least = takes_a_slot i known in
      map_dec
      (λ x. record { ends = x.0; fits = x.1.0; by = x.1.1.0; before = x.1.1.1 })
      (λ over. (over.ends, (over.fits, (over.by, over.before))))
      (dec_and (ℕ_discrete (to m i) v) (λ _.
      dec_and (dec_true (admissible m (leg i e))) (λ _.
      dec_and (dec_le (e + slots m i) n) (λ by. below e (omega arith) (from m i)))))

  dec_from_below : (v n : ℕ) → ((k : ℕ) → k < n → (w : ℕ) → Dec (Reached m o t w k))
      → Dec ((v ≡ o) × (t ≤ n)) → Dec (Reached m o t v n)
  dec_from_below v n below (yes here) = yes (record { at = t; legs = []; by = here.1; walk = (sym here.0, refl) })
  dec_from_below v n below (no away) =
      map_dec
      (λ x. reached_over v n x.0 x.2.0 x.2.2)
      (over_reached v n away)
      (dec_some (segments m) _ (λ i known. dec_some (suc n) _ (λ e within. dec_over v n i e below known)))

  dec_below : (bound n : ℕ) → n < bound → (v : ℕ) → Dec (Reached m o t v n)
  dec_below zero n within v = no (λ reached. omega arith)
  dec_below (suc bound) n within v =
      dec_from_below v n (λ k less w. dec_below bound k (omega arith) w) (dec_and (ℕ_discrete v o) (λ _. dec_le t n))

  dec_reached : (v n : ℕ) → Dec (Reached m o t v n)
  dec_reached v n = dec_below (suc n) n (omega arith) v

  -- ---- E(v)

  -- it is by slot n
  pub record EarliestBy (v n : ℕ) : Type 0 where
    pub at : ℕ
    pub by : at ≤ n
    pub earliest : Earliest m o t v at

  reached_earliest : (v n : ℕ) → Reached m o t v n → EarliestBy v n
  reached_earliest v n reached =
      ⊎_elim
      found
      (λ none. absurd (none n (omega arith) reached))
      (find_first (suc n) (λ k. Reached m o t v k) (λ k within. dec_reached v k))
    where
      found : First (suc n) (λ k. Reached m o t v k) → EarliestBy v n
      found first =
          let best = first.holds in
          let by = best.by in
          let within = first.within in
          record {
            at = best.at;
            by = omega arith;
            earliest = record {
              legs = best.legs;
              walk = best.walk;
              least = λ b ls walk.
                  ⊎_elim
                  (λ less. absurd (first.none_before b (omega arith)
                  (record { at = b; legs = ls; by = omega arith; walk = walk })))
                  (λ more. more)
                  (cases_lt b best.at);
            };
          }

  pub walk_earliest : (v a : ℕ) (ls : List Leg) → Walk m o t v a ls → EarliestBy v a
  walk_earliest v a ls walk = reached_earliest v a (record { at = a; legs = ls; by = omega arith; walk = walk })

  -- ---- the last leg into a junction

  pub some_into : (v a : ℕ) → v ≢ o → Earliest m o t v a → (i : ℕ) × Into m o t v a i
  some_into v a away earliest = last earliest.legs earliest.walk
    where
      last : (ls : List Leg) → Walk m o t v a ls → (i : ℕ) × Into m o t v a i
      last [] walk = absurd (away (sym walk.0))
      last (l ∷ ls) walk =
          let off = last_off m o t v a l ls walk in
          let i = off.last.segment in
          let start = walk_earliest (from m i) off.at off.front off.walk in
          let by = start.by in
          let arrives = off.arrives in
          let waits = off.waits in
          let enters : off.last.entry ≡ a - slots m i = omega arith in (
            i,
            record {
              known = admitted_known m off.last off.fits;
              ends = off.ends;
              start_slot = start.at;
              start_earliest = start.earliest;
              reaches = omega arith;
              fits = subst (λ e. admissible m (leg i e) ≡ true) enters off.fits;
            },
          )

  dec_into : (v a i : ℕ) → i < segments m → Dec (Into m o t v a i)
  dec_into v a i known =
      map_dec
      (λ x.
      let start = reached_earliest (from m i) (a - slots m i) x.1.1.1 in
      let by = start.by in
      let fits = x.1.1.0 in
      record {
        known = known;
        ends = x.0;
        start_slot = start.at;
        start_earliest = start.earliest;
        reaches = omega arith;
        fits = x.1.0;
      })
      (λ into.
      let reaches = into.reaches in
      let start = into.start_earliest in
      let before : Reached m o t (from m i) (a - slots m i) =
      record { at = into.start_slot; legs = start.legs; by = omega arith; walk = start.walk } in
      (into.ends, (into.fits, (omega arith, before))))
      (dec_and (ℕ_discrete (to m i) v) (λ _.
      dec_and (dec_true (admissible m (leg i (a - slots m i)))) (λ _.
      dec_and (dec_le (slots m i) a) (λ _. dec_reached (from m i) (a - slots m i)))))

  some_last : (v a : ℕ) → v ≢ o → Earliest m o t v a → (l : Leg) × Last m o t v l
  some_last v a away earliest =
      ⊎_elim
      (λ first. (
        leg first.at (a - slots m first.at),
        record {
          arrival = a;
          earliest = earliest;
          into = first.holds;
          lowest = first.none_before;
          enters = refl;
        },
      ))
      (λ none. let some = some_into v a away earliest in absurd (none some.0 some.1.known some.1))
      (find_first (segments m) (Into m o t v a) (dec_into v a))

  -- ---- the chosen route

  traced_below : (bound v a : ℕ) → a < bound → Earliest m o t v a → (ls : List Leg) × Traced m o t v ls
  traced_below zero v a within earliest = absurd (omega arith)
  traced_below (suc bound) v a within earliest =
      ⊎_elim
      (λ here. ([], here))
      (λ away.
      let some = some_last v a away earliest in
      let l = some.0 in
      let last = some.1 in
      let rises = last_rises m o t sound v l last in
      let same : last.arrival ≡ a = earliest_unique m o t v _ _ last.earliest earliest in
      let start = last.into.start_slot in
      let rest = traced_below bound (from m l.segment) start (omega arith) last.into.start_earliest in
      (l ∷ rest.0, (away, last, rest.1)))
      (cases_eq v o)

  pub earliest_chosen : (v a : ℕ) → Earliest m o t v a → (legs : List Leg) × Chosen m o t v legs
  earliest_chosen v a earliest =
      let traced = traced_below (suc a) v a (omega arith) earliest in
      (reverse traced.0, rw (reverse-reverse traced.0) traced.1)

  pub walk_chosen : (v a : ℕ) (ls : List Leg) → Walk m o t v a ls → (legs : List Leg) × Chosen m o t v legs
  walk_chosen v a ls walk =
      let best = walk_earliest v a ls walk in
      earliest_chosen v best.at best.earliest
