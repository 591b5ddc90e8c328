-- What the four numbers of a segment tell.
use Rattle.std.proofs.Common.{◌≡◌, ℕ, ◌+◌, ◌<◌, ◌≤◌, true, List, ◌∷◌, set, Some, None, refl, ap, ◌∙◌, subst, ap₂, subst₂, inl, inr, arith}
use Rattle.std.proofs.lemmas.Bool.{both_ways}
use Rattle.std.specs.List.Sorted.{IsPermutation}
use Rattle.plan.specs.Limits.{most_slots, most_travel}
use Rattle.book.specs.Entries.{IsNext, NextEntry}
use Rattle.book.specs.Loads.{admissible}
use Rattle.book.specs.Meaning.{Meaning, Sound, segment_of, segments}
use Rattle.book.proofs.Loading.{admitted_within}
use Rattle.book.proofs.Segments.{segment_some}
use Rattle.walks.specs.Labels.{at, far, label}
use Rattle.walks.specs.Relaxed.{Relaxed}
use Rattle.walks.specs.Walks.{from, leg, slots as slots_of, to}
use Rattle.queue_client.specs.declared.label.Label.{Label}

pub record Shows (m : Meaning) (i start end slots : ℕ) : Type 0 where
  pub known : i < segments m
  pub start_is : start ≡ from m i
  pub end_is : end ≡ to m i
  pub slots_are : slots ≡ slots_of m i
  pub start_known : start < m.shown.junctions
  pub end_known : end < m.shown.junctions
  pub takes_a_slot : 1 ≤ slots
  pub few_slots : slots ≤ most_travel

pub shows : {m : Meaning} {i start end slots count : ℕ} → Sound m → Some (start, end, slots, count) ≡ segment_of m i
    → Shows m i start end slots
shows {m} {i} sound some =
    let found = segment_some m i _ some in
    let start_is = ap (λ (q : ℕ × ℕ × ℕ × ℕ). q.0) found.1 in
    let end_is = ap (λ (q : ℕ × ℕ × ℕ × ℕ). q.1) found.1 in
    let slots_are = ap (λ (q : ℕ × ℕ × ℕ × ℕ). q.2) found.1 in
    let fits = sound.plan_fits.roads_fit i found.0 in
    let start = fits.start_known in
    let end = fits.end_known in
    let takes = fits.takes_a_slot in
    let few = fits.few_slots in
    record {
      known = found.0;
      start_is = start_is;
      end_is = end_is;
      slots_are = slots_are;
      start_known = omega arith;
      end_known = omega arith;
      takes_a_slot = omega arith;
      few_slots = omega arith;
    }

-- an admissible leg ends at one of the plan's slots
pub ends_early : {m : Meaning} → Sound m → (i e : ℕ) → admissible m (leg i e) ≡ true → e + slots_of m i ≤ most_slots
ends_early {m} sound i e fits =
    let within = admitted_within m (leg i e) fits in
    let few = sound.plan_fits.few_slots in
    omega arith

-- ---- what relaxing a segment did, by its numbers as they are shown

module _ {m : Meaning} {i start end slots : ℕ} (shown : Shows m i start end slots) (best : List ℕ) (q : List Label) where
  start_slot : at best start ≡ at best (from m i)
  start_slot = ap (at best) shown.start_is

  end_slot : at best end ≡ at best (to m i)
  end_slot = ap (at best) shown.end_is

  -- its start is not reached
  pub relaxed_unreached : Sound m → at best start ≡ far → Relaxed m i best q best q
  relaxed_unreached sound away = inl (record {
    enough = λ e later fits. absurd (omega (arith, start_slot, ends_early sound i e fits));
    same_table = refl;
    same_queue = refl;
  })

  module _ (f : ℕ) (reached : f ≡ at best start) where
    -- it has no next entry
    pub relaxed_none : NextEntry m i f None → Relaxed m i best q best q
    relaxed_none none = inl (record {
      enough = λ e later fits. absurd (both_ways (admissible m (leg i e)) (none e (omega (arith, start_slot))) fits);
      same_table = refl;
      same_queue = refl;
    })

    module _ (e : ℕ) (next : IsNext m i f e) where
      -- its end is reached no later already
      pub relaxed_kept : at best end ≤ e + slots → Relaxed m i best q best q
      relaxed_kept by = inl (record {
        enough = λ k later fits.
            let first = next.first k (omega (arith, start_slot)) fits in
            omega (arith, end_slot, shown.slots_are);
        same_table = refl;
        same_queue = refl;
      })

      pub relaxed_better : (p : List Label) → e + slots < at best end → IsPermutation (label (e + slots) end ∷ q) p
          → Relaxed m i best q (set best end (e + slots)) p
      relaxed_better p less put = inr (record {
        entry = e;
        next = subst (λ k. IsNext m i k e) (reached ∙ start_slot) next;
        less = omega (arith, end_slot, shown.slots_are);
        table = ap₂ (λ v u. set best v (e + u)) shown.end_is shown.slots_are;
        queue = subst₂ (λ v u. IsPermutation (label (e + u) v ∷ q) p) shown.end_is shown.slots_are put;
      })

      -- the slot where the leg ends is one of the plan's
      pub shown_slot : Sound m → e + slots ≤ most_slots
      shown_slot sound = let early = ends_early sound i e next.fits in let same = shown.slots_are in omega arith
