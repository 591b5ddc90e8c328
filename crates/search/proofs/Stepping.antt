-- A step back over a segment, by its numbers as they are shown.
use Rattle.std.proofs.Common.{◌≡◌, ℕ, ◌+◌, ◌-◌, ◌<◌, ◌≤◌, Bool, true, false, ◌≢◌, List, Some, None, Option, refl, sym, ap, ◌∙◌, subst, subst₂, arith}
use Rattle.std.proofs.lemmas.Bool.{both_ways}
use Rattle.std.specs.Bool.{then_some}
use Rattle.std.specs.Option.{IsSome}
use Rattle.book.specs.Loads.{admissible}
use Rattle.book.specs.Meaning.{Meaning, Sound, segments}
use Rattle.walks.specs.Labels.{at, far}
use Rattle.walks.specs.Tables.{TableInto, TableLast}
use Rattle.walks.specs.Walks.{from, leg, slots as slots_of}
use Rattle.search.specs.Steps.{IsStep, StepBack, StepOver}
use Rattle.search.specs.declared.tracing.Step.{Step}
use Rattle.search.proofs.Showing.{Shows, ends_early}

pub not_into_unknown : (m : Meaning) (best : List ℕ) (v i : ℕ) → segments m ≤ i → TableInto m best v i → ⊥
not_into_unknown m best v i past into = let known = into.known in omega arith

pub not_into_unreached : {m : Meaning} → Sound m → (best : List ℕ) (v i : ℕ) → at best v ≡ far → TableInto m best v i → ⊥
not_into_unreached sound best v i away into = let early = ends_early sound i _ into.fits in omega (arith, early, away)

module _ {m : Meaning} {i start end slots : ℕ} (shown : Shows m i start end slots) (best : List ℕ) (v : ℕ) where
  pub not_into_other : end ≢ v → TableInto m best v i → ⊥
  not_into_other apart into = apart (shown.end_is ∙ into.ends)

  pub not_into_late : at best v < at best start + slots → TableInto m best v i → ⊥
  not_into_late late into =
      let reaches = into.reaches in
      let same = ap (at best) shown.start_is in
      let travel = shown.slots_are in
      omega arith

  module _ (e : ℕ) (enters : e ≡ at best v - slots) where
    enters_then : e ≡ at best v - slots_of m i
    enters_then = enters ∙ ap (λ u. at best v - u) shown.slots_are

    pub not_into_barred : admissible m (leg i e) ≡ false → TableInto m best v i → ⊥
    not_into_barred no_room into =
        both_ways (admissible m (leg i e)) no_room
        (subst (λ k. admissible m (leg i k) ≡ true) (sym enters_then) into.fits)

    pub shown_step : end ≡ v → at best start + slots ≤ at best v → admissible m (leg i e) ≡ true
        → IsStep m best v i (record { leg = leg i e; start = start })
    shown_step ends reaches fits =
        record {
          into = record {
            known = shown.known;
            ends = sym shown.end_is ∙ ends;
            reaches = subst₂ (λ s u. at best s + u ≤ at best v) shown.start_is shown.slots_are reaches;
            fits = subst (λ k. admissible m (leg i k) ≡ true) enters_then fits;
          };
          leg_is = ap (leg i) enters_then;
          starts = shown.start_is;
        }

    pub step_if_fits : (fits : Bool) → fits ≡ admissible m (leg i e) → end ≡ v → at best start + slots ≤ at best v
        → StepOver m best v i (then_some fits (record { leg = leg i e; start = start }))
    step_if_fits true same ends reaches = shown_step ends reaches (sym same)
    step_if_fits false same ends reaches = not_into_barred (sym same)

module _ (m : Meaning) (best : List ℕ) (v : ℕ) where
  -- the first segment over which there is a step
  pub step_is_last : (i : ℕ) (s : Step) → IsStep m best v i s → ((j : ℕ) → j < i → TableInto m best v j → ⊥)
      → TableLast m best v s.leg s.start
  step_is_last i s step lower =
      let segment = ap (λ l. l.segment) step.leg_is in
      record {
        into = subst (TableInto m best v) (sym segment) step.into;
        lowest = λ j below. lower j (omega arith);
        enters = ap (λ l. l.entry) step.leg_is ∙ ap (λ k. at best v - slots_of m k) (sym segment);
        starts = step.starts ∙ ap (λ k. from m k) (sym segment);
      }

  -- where some last segment is found there is a step
  pub some_step : (r : Option Step) → StepBack m best v r → (((j : ℕ) → j < segments m → TableInto m best v j → ⊥) → ⊥)
      → IsSome r
  some_step None none found = absurd (found none)
  some_step (Some s) step found = refl
