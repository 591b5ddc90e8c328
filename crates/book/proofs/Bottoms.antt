-- What holds of every bottom book, whatever memory it keeps its legs in.
use Rattle.std.proofs.Common.{◌≡◌, ℕ, ◌+◌, ◌<◌, ◌≤◌, Bool, true, false, cond, not, ◌&&◌, ltb, ◌≢◌, ◌⊎◌, List, length, get_or, sym, refl, ap, ◌∙◌, subst, inl, inr, ⊎_elim, arith}
use Rattle.std.proofs.lemmas.List.{get_or_past}
use Rattle.std.proofs.lemmas.Bool.{and_from, and_left, and_parts, and_right, cases_Bool, cases_eq, cases_lt, cond-false, cond-true, le-ltb, lt-ltb, ltb-true, ne_eqb}
use Rattle.plan.specs.Limits.{most_legs}
use Rattle.book.specs.Bottom.{bottom, keeps_at, no_legs}
use Rattle.book.specs.Meaning.{Shown, ShownFits, Sound, one, plus, total}
use Rattle.book.specs.ShownPlan.{shown_of}
use Rattle.book.specs.declared.legs.Leg.{Leg}
use Rattle.book.specs.declared.shown.ShownPlan.{ShownPlan}
use Rattle.book.proofs.Loading.{total_counts}
use Rattle.book.proofs.Reserving.{one_here, same_meaning}
use Rattle.book.proofs.Showing.{roads_length}
use Rattle.book.proofs.Sums.{sum_same, sum_zero}

-- ---- a kept plan is in range

pub shown_fits : (p : ShownPlan) → ShownFits (shown_of p)
shown_fits p =
    let few = p.few_segments in
    let long = roads_length p.numbers.items in
    record {
      some_slot = p.some_slot;
      few_slots = p.few_slots;
      two_junctions = p.two_junctions;
      few_junctions = p.few_junctions;
      few_segments = omega (arith, few, long);
      roads_fit = λ i within. p.roads_fit i (omega (arith, long, within));
    }

-- the book keeps legs, and the plan has the segment and the entry
pub record Keeps (s : Shown) (kept : Bool) (i e : ℕ) : Type 0 where
  pub keeps : kept ≡ true
  pub known : i < length s.roads
  pub within : e < s.horizon

total_none : (s : Shown) (barred : Bool) → total (no_legs s barred) ≡ 0
unfolding total no_legs
total_none s barred =
    sum_same (length s.roads) _ (λ _. 0) (λ i. sum_zero s.horizon) ∙ sum_zero (length s.roads)

module _ (s : Shown) (kept : Bool) where
  kept_at : (i e : ℕ) → Keeps s kept i e → keeps_at s kept i e ≡ true
  kept_at i e at =
      and_from kept _ at.keeps
      (and_from (ltb i (length s.roads)) _ (lt-ltb i (length s.roads) at.known)
      (lt-ltb e s.horizon at.within))

  at_kept : (i e : ℕ) → keeps_at s kept i e ≡ true → Keeps s kept i e
  at_kept i e told =
      let memory = and_parts kept (ltb i (length s.roads) && ltb e s.horizon) told in
      let plan = and_parts (ltb i (length s.roads)) (ltb e s.horizon) memory.1 in
      record {
        keeps = memory.0;
        known = ltb-true i (length s.roads) plan.0;
        within = ltb-true e s.horizon plan.1;
      }

  pub bottom_at : (held : ℕ → ℕ → ℕ) (i e : ℕ) → Keeps s kept i e → (bottom s kept held).standing i e ≡ held i e
  bottom_at held i e at = cond-true (keeps_at s kept i e) (held i e) 0 (kept_at i e at)

  pub standing_none : (held : ℕ → ℕ → ℕ) (i e : ℕ) → held i e ≡ 0 → (bottom s kept held).standing i e ≡ 0
  standing_none held i e none =
      elim (cases_Bool (keeps_at s kept i e)) [
        | inl told ↦ cond-true (keeps_at s kept i e) (held i e) 0 told ∙ none
        | inr not_told ↦ cond-false (keeps_at s kept i e) (held i e) 0 not_told
      ]

  -- over too little memory none stands
  pub shut_stands : (held : ℕ → ℕ → ℕ) (i : ℕ) → kept ≡ false → (e : ℕ) → (bottom s kept held).standing i e ≡ 0
  shut_stands held i short e = cond-false (keeps_at s kept i e) (held i e) 0 (and_left kept _ short)

  -- where a leg stands
  pub standing_kept : (held : ℕ → ℕ → ℕ) (i e : ℕ) → (bottom s kept held).standing i e ≢ 0 → Keeps s kept i e
  standing_kept held i e some =
      elim (cases_Bool (keeps_at s kept i e)) [
        | inl told ↦ at_kept i e told
        | inr not_told ↦ absurd (some (cond-false (keeps_at s kept i e) (held i e) 0 not_told))
      ]

  pub bottom_sound : (held : ℕ → ℕ → ℕ) → ShownFits s → total (bottom s kept held) ≤ most_legs
      → Sound (bottom s kept held)
  bottom_sound held fits few =
      record {
        plan_fits = fits;
        known_segments = λ i e past.
            cond-false (keeps_at s kept i e) (held i e) 0
            (and_right kept _ (and_left (ltb i (length s.roads)) _ (le-ltb i (length s.roads) past)));
        known_entries = λ i e past.
            cond-false (keeps_at s kept i e) (held i e) 0
            (and_right kept _ (and_right (ltb i (length s.roads)) _ (le-ltb e s.horizon past)));
        few_legs = few;
      }

  -- ---- one leg more

  module _ (less more : ℕ → ℕ → ℕ) (l : Leg) (at : Keeps s kept l.segment l.entry)
      (here : more l.segment l.entry ≡ less l.segment l.entry + 1)
      (elsewhere : (i e : ℕ) → Keeps s kept i e → (l.segment ≢ i) ⊎ (l.entry ≢ e) → more i e ≡ less i e) where
    apart_same : (i e : ℕ) → (l.segment ≢ i) ⊎ (l.entry ≢ e)
        → (bottom s kept more).standing i e ≡ (bottom s kept less).standing i e
    apart_same i e apart =
        elim (cases_Bool (keeps_at s kept i e)) [
          | inl told ↦ ap (λ n. cond (keeps_at s kept i e) n 0) (elsewhere i e (at_kept i e told) apart)
          | inr not_told ↦
              cond-false (keeps_at s kept i e) (more i e) 0 not_told
              ∙ sym (cond-false (keeps_at s kept i e) (less i e) 0 not_told)
        ]

    stands : (i e : ℕ) → (bottom s kept more).standing i e ≡ (plus (bottom s kept less) l).standing i e
    stands i e =
        ⊎_elim
        (λ segment.
        ⊎_elim
        (λ entry.
        let now_there = bottom_at more l.segment l.entry at in
        let was_there = bottom_at less l.segment l.entry at in
        subst (λ j. (bottom s kept more).standing j e ≡ (plus (bottom s kept less) l).standing j e) segment
        (subst (λ k. (bottom s kept more).standing l.segment k ≡ (plus (bottom s kept less) l).standing l.segment k)
        entry (omega (arith, now_there, was_there, here, one_here l))))
        (λ apart. let none : one l i e ≡ 0 = let no = ne_eqb l.entry e apart in grind (arith, no) in
        omega (arith, apart_same i e (inr apart), none))
        (cases_eq l.entry e))
        (λ apart. let none : one l i e ≡ 0 = let no = ne_eqb l.segment i apart in grind (arith, no) in
        omega (arith, apart_same i e (inl apart), none))
        (cases_eq l.segment i)

    pub bottom_more : bottom s kept more ≡ plus (bottom s kept less) l
    bottom_more = same_meaning (bottom s kept more) (plus (bottom s kept less) l) refl stands refl

    pub total_more : total (bottom s kept more) ≡ total (bottom s kept less) + 1
    total_more = ap total bottom_more ∙ total_counts (bottom s kept less) l at.known at.within

  -- ---- no leg

  pub bottom_none : (held : ℕ → ℕ → ℕ) → ((i e : ℕ) → Keeps s kept i e → held i e ≡ 0)
      → bottom s kept held ≡ no_legs s (not kept)
  unfolding no_legs
  bottom_none held none =
      same_meaning (bottom s kept held) (no_legs s (not kept)) refl
      (λ i e.
      elim (cases_Bool (keeps_at s kept i e)) [
        | inl told ↦ cond-true (keeps_at s kept i e) (held i e) 0 told ∙ none i e (at_kept i e told)
        | inr not_told ↦ cond-false (keeps_at s kept i e) (held i e) 0 not_told
      ])
      refl

  pub total_bottom_none : (held : ℕ → ℕ → ℕ) → ((i e : ℕ) → Keeps s kept i e → held i e ≡ 0)
      → total (bottom s kept held) ≡ 0
  total_bottom_none held none = ap total (bottom_none held none) ∙ total_none s (not kept)

  -- the row of a segment, which tells how many legs the memory holds for each entry
  pub bottom_row : (held : ℕ → ℕ → ℕ) (i : ℕ) (row : List ℕ) → kept ≡ true → i < length s.roads
      → length row ≡ s.horizon → ((e : ℕ) → e < s.horizon → held i e ≡ get_or row e 0)
      → (e : ℕ) → (bottom s kept held).standing i e ≡ get_or row e 0
  bottom_row held i row keeps known long each e =
      ⊎_elim
      (λ within. bottom_at held i e (record { keeps = keeps; known = known; within = within }) ∙ each e within)
      (λ past.
      cond-false (keeps_at s kept i e) (held i e) 0
      (and_right kept _ (and_right (ltb i (length s.roads)) _ (le-ltb e s.horizon past)))
      ∙ sym (get_or_past row e 0 (omega (arith, long, past))))
      (cases_lt e s.horizon)
