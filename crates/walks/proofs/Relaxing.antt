-- A search that settles v relaxes the segment k: its invariant is kept.
use Rattle.std.proofs.Common.{◌≡◌, ℕ, ◌+◌, ◌<◌, ◌≤◌, Bool, true, false, ◌≢◌, ◌⊎◌, List, [], ◌∷◌, ◌++◌, length, set, sym, refl, ap, ◌∙◌, subst, ap₂, subst₂, inl, inr, ⊎_elim, arith}
use mathlib.Core.Path.{subst₃}
use Rattle.std.specs.List.Sorted.{IsPermutation}
use Rattle.std.specs.List.{ContainsAt as Has, AllByRecursion}
use Rattle.std.proofs.ByRecursion.{All-weaker, all_shuffled}
use Rattle.std.proofs.lemmas.List.{get_or-set_other, get_or-set_same, length-set}
use Rattle.std.proofs.lemmas.List.Sorted.{length_permutation}
use Rattle.std.proofs.lemmas.Bool.{cases_eq}
use Rattle.book.specs.Entries.{IsNext}
use Rattle.book.specs.Meaning.{Meaning, Sound, segments}
use Rattle.book.specs.declared.legs.Leg.{Leg}
use Rattle.book.proofs.Loading.{admitted_within}
use Rattle.walks.specs.Labels.{at, done, far, label}
use Rattle.walks.specs.Relaxed.{Better, Enough, Kept, Relaxed}
use Rattle.walks.specs.Searching.{Ahead, Goes, Settling, pending}
use Rattle.walks.specs.Walks.{Walk, from, leg, slots, to}
use Rattle.queue_client.specs.declared.label.Label.{Label}
use Rattle.walks.proofs.Pending.{not_pending_done, passed_before, pendings_passed, pendings_relaxed}
use Rattle.walks.proofs.Queues.{put_in, put_keeps}
use Rattle.walks.proofs.Walking.{walk_push}

-- the queue has at most one label more
pub relaxed_length : (m : Meaning) (i : ℕ) (best : List ℕ) (q : List Label) (after : List ℕ) (p : List Label)
    → Relaxed m i best q after p → length p ≤ length q + 1
relaxed_length m i best q after p relaxed =
    ⊎_elim
    (λ kept. let same = ap length kept.same_queue in omega arith)
    (λ better. omega (arith, length_permutation _ _ better.queue))
    relaxed

-- ---- nothing better comes over segment k, or it starts elsewhere

module _ {m : Meaning} {o t : ℕ} {best : List ℕ} {settled : List Bool} {q : List Label} {d v k : ℕ}
    (s : Settling m o t best settled q d v k) where
  kept_relaxed : (from m k ≡ v → Enough m k best) → (i : ℕ) → i < segments m
      → pending m settled v (k + 1) i ≡ false → Enough m i best
  kept_relaxed enough i known free =
      ⊎_elim
      (λ same. subst (λ j. Enough m j best) (sym same.0) (enough (ap (from m) (sym same.0) ∙ same.1)))
      (λ other. s.searching.relaxed i known (passed_before m settled v k i free other))
      both
    where
      both : ((i ≡ k) × (from m i ≡ v)) ⊎ ((i ≡ k) × (from m i ≡ v) → ⊥)
      both =
          ⊎_elim
          (λ same. ⊎_elim (λ starts. inl (same, starts)) (λ apart. inr (λ x. apart x.1)) (cases_eq (from m i) v))
          (λ apart. inr (λ x. apart x.0))
          (cases_eq i k)

  settling_kept : (from m k ≡ v → Enough m k best) → Settling m o t best settled q d v (k + 1)
  settling_kept enough = record {
    searching = record {
      best_long = s.searching.best_long;
      settled_long = s.searching.settled_long;
      slot_low = s.searching.slot_low;
      origin = s.searching.origin;
      reached = s.searching.reached;
      behind = s.searching.behind;
      waiting = s.searching.waiting;
      ahead = s.searching.ahead;
      relaxed = kept_relaxed enough;
    };
    now = s.now;
    here = s.here;
  }

-- ---- segment k starts at v, and its next entry e brings its end a better slot

module _ {m : Meaning} {o t : ℕ} {best : List ℕ} {settled : List Bool} {q p : List Label} {d v k e : ℕ}
    (sound : Sound m) (s : Settling m o t best settled q d v k) (known : k < segments m) (starts : from m k ≡ v)
    (next : IsNext m k (at best v) e) (less : e + slots m k < at best (to m k))
    (put : IsPermutation (label (e + slots m k) (to m k) ∷ q) p) where
  abbrev after : List ℕ
  after = set best (to m k) (e + slots m k)

  end_known : to m k < m.shown.junctions
  end_known = (sound.plan_fits.roads_fit k known).end_known

  end_unsettled : done settled (to m k) ≡ true → ⊥
  end_unsettled settled_end =
      let behind = s.searching.behind (to m k) end_known settled_end in
      let here = s.here in
      let later = next.later in
      omega arith

  at_end : at after (to m k) ≡ e + slots m k
  at_end =
      let long = s.searching.best_long in
      get_or-set_same best (to m k) (e + slots m k) 0 (omega (arith, end_known))

  at_other : (w : ℕ) → w ≢ to m k → at after w ≡ at best w
  at_other w apart = get_or-set_other best (to m k) w (e + slots m k) 0 apart

  at_settled : (w : ℕ) → done settled w ≡ true → at after w ≡ at best w
  at_settled w is = at_other w (λ end. end_unsettled (rw end at is))

  at_no_later : (w : ℕ) → at after w ≤ at best w
  at_no_later w =
      ⊎_elim
      (λ (end : w ≡ to m k). let new = ap (at after) end in let old = ap (at best) end in omega (arith, at_end))
      (λ apart. omega (arith, at_other w apart))
      (cases_eq w (to m k))

  -- the walk to v, and segment k
  walk_over : (legs : List Leg) × Walk m o t (to m k) (e + slots m k) legs
  walk_over =
      let v_known : v < m.shown.junctions = rw starts at (sound.plan_fits.roads_fit k known).start_known in
      let near = s.searching.slot_low in
      let here = s.here in
      ⊎_elim
      (λ away. absurd (omega arith))
      (λ walk. (
        walk.0 ++ leg k e ∷ [],
        walk_push m o t v (at best v) walk.0 (leg k e) walk.1
            (record { fits = next.fits; starts = starts; waits = next.later }),
      ))
      (s.searching.reached v v_known)

  better_reached : (w : ℕ) → w < m.shown.junctions
      → (at after w ≡ far) ⊎ ((legs : List Leg) × Walk m o t w (at after w) legs)
  better_reached w w_known =
      ⊎_elim
      (λ end. inr (
        walk_over.0,
        subst₃ (Walk m o t) (sym end) (sym (ap (at after) end ∙ at_end)) refl walk_over.1,
      ))
      (λ apart. rw (at_other w apart) (s.searching.reached w w_known))
      (cases_eq w (to m k))

  better_waiting : (w : ℕ) → w < m.shown.junctions → done settled w ≡ false → at after w < far
      → Has p (label (at after w) w)
  better_waiting w w_known unsettled near =
      ⊎_elim
      (λ (end : w ≡ to m k). subst (Has p) (ap₂ label (sym (ap (at after) end ∙ at_end)) (sym end)) (put_in put))
      (λ apart.
      let same = at_other w apart in
      rw same (put_keeps put (label (at best w) w) (s.searching.waiting w w_known unsettled (rw same at near))))
      (cases_eq w (to m k))

  better_ahead : AllByRecursion (Ahead m after d) p
  better_ahead =
      let ends = admitted_within m (leg k e) next.fits in
      let low = sound.plan_fits.few_slots in
      let later = next.later in
      let here = s.here in
      let still : AllByRecursion (Ahead m after d) q =
      All-weaker (Ahead m best d) (Ahead m after d)
      (λ x ahead.
      let by = ahead.best_by in
      record {
        later = ahead.later;
        not_far = ahead.not_far;
        known = ahead.known;
        best_by = omega (arith, at_no_later x.junction);
      })
      q s.searching.ahead in
      let new : Ahead m after d (label (e + slots m k) (to m k)) =
      record { later = omega arith; not_far = omega arith; known = end_known; best_by = omega (arith, at_end) } in
      all_shuffled (Ahead m after d) (label (e + slots m k) (to m k) ∷ q) p put (new, still)

  better_relaxed : (i : ℕ) → i < segments m → pending m settled v (k + 1) i ≡ false → Enough m i after
  better_relaxed i i_known free f from_then fits =
      let same = at_settled (from m i) (not_pending_done m settled v (k + 1) i free) in
      ⊎_elim
      (λ (is : i ≡ k).
      let start : at best (from m i) ≡ at best v = ap (at best) (ap (from m) is ∙ starts) in
      let first = next.first f (omega arith) (rw is at fits) in
      let end : at after (to m i) ≡ e + slots m k = ap (at after) (ap (to m) is) ∙ at_end in
      let travel : slots m i ≡ slots m k = ap (slots m) is in
      omega arith)
      (λ apart.
      let before = passed_before m settled v k i free (λ x. apart x.0) in
      let enough = s.searching.relaxed i i_known before f (omega arith) fits in
      omega (arith, at_no_later (to m i)))
      (cases_eq i k)

  settling_better : Settling m o t (set best (to m k) (e + slots m k)) settled p d v (k + 1)
  settling_better = record {
    searching = record {
      best_long = let long = s.searching.best_long in omega (arith, length-set best (to m k) (e + slots m k));
      settled_long = s.searching.settled_long;
      slot_low = s.searching.slot_low;
      origin = let origin = s.searching.origin in omega (arith, at_no_later o);
      reached = better_reached;
      behind = λ w w_known is. let behind = s.searching.behind w w_known is in omega (arith, at_settled w is);
      waiting = better_waiting;
      ahead = better_ahead;
      relaxed = better_relaxed;
    };
    now = s.now;
    here = at_settled v s.now ∙ s.here;
  }

-- ---- so every search that settles v goes on

module _ (m : Meaning) (v : ℕ) where
  pub goes_none : (k : ℕ) (best : List ℕ) (q : List Label) → Goes m v k best q k best q
  goes_none k best q o t d settled s = (s, omega arith)

  pub goes_on : (k l n : ℕ) (best between last : List ℕ) (q r p : List Label)
      → Goes m v k best q l between r → Goes m v l between r n last p → Goes m v k best q n last p
  goes_on k l n best between last q r p first then o t d settled s =
      let a = first o t d settled s in
      let b = then o t d settled a.0 in
      let fewer = a.1 in
      let fewest = b.1 in
      (b.0, omega arith)

module _ (m : Meaning) (sound : Sound m) (v k : ℕ) (known : k < segments m) (best : List ℕ) (q : List Label) where
  pub goes_past : from m k ≢ v → Goes m v k best q (k + 1) best q
  goes_past apart o t d settled s =
      (settling_kept s (λ starts. absurd (apart starts)), omega (arith, pendings_passed m settled v k))

  module _ (after : List ℕ) (p : List Label) (starts : from m k ≡ v) where
    goes_kept : Kept m k best q after p → Goes m v k best q (k + 1) after p
    goes_kept kept o t d settled s =
        let same = ap length kept.same_queue in (
          subst₂ (λ b r. Settling m o t b settled r d v (k + 1)) (sym kept.same_table) (sym kept.same_queue)
              (settling_kept s (λ _. kept.enough)),
          omega (arith, pendings_relaxed m settled v k known starts s.now),
        )

    goes_better : Better m k best q after p → Goes m v k best q (k + 1) after p
    goes_better better o t d settled s =
        let next = rw starts at better.next in (
          rw better.table (settling_better sound s known starts next better.less better.queue),
          omega (arith, pendings_relaxed m settled v k known starts s.now, length_permutation _ _ better.queue),
        )

    pub goes_relaxed : Relaxed m k best q after p → Goes m v k best q (k + 1) after p
    goes_relaxed relaxed = ⊎_elim goes_kept goes_better relaxed
