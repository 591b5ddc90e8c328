-- What the calls answer where they do not refuse, and what an admissible leg tells of a bottom book.
use Rattle.std.proofs.Common.{◌≡◌, ℕ, ◌+◌, ◌<◌, Bool, true, false, cond, not, eqb, ltb, leb, ◌≢◌, is_ok, Ok, Err, sym, refl, ap, ◌∙◌, inl, inr, arith}
use Rattle.std.proofs.lemmas.Bool.{cases_Bool, cond-false, cond-true, eq-eqb, le-leb, lt-ltb, ne_eqb, and_from, true≢false}
use Rattle.plan.specs.Limits.{most_count, most_legs}
use Rattle.plan.specs.declared.refusals.Refusal.TheVariants as refusal
use Rattle.book.specs.Bottom.{bottom, no_legs}
use Rattle.book.specs.Calls.{frees, reserves}
use Rattle.book.specs.Loads.{admissible, holds, load_below}
use Rattle.book.specs.Meaning.{Meaning, Shown, ShownFits, horizon, road, total}
use Rattle.book.specs.declared.legs.Leg.{Leg}
use Rattle.book.proofs.Bottoms.{Keeps}
use Rattle.book.proofs.Deciding.{barred_not_admitted}
use Rattle.book.proofs.Loading.{admitted_known, admitted_slots_have_room, admitted_within}
use Rattle.book.proofs.Piling.{held_none}
use Rattle.book.proofs.Sums.{le_sum}

module _ (m : Meaning) (l : Leg) where
  pub reserves_ok : admissible m l ≡ true → total m < most_legs → Ok tt ≡ reserves m l
  reserves_ok admitted few =
      sym (cond-true (admissible m l) _ _ admitted
      ∙ cond-true (ltb (total m) most_legs) _ _ (lt-ltb (total m) most_legs few))

  pub frees_ok : m.standing l.segment l.entry ≢ 0 → Ok tt ≡ frees m l
  frees_ok some =
      sym (cond-false (eqb (m.standing l.segment l.entry) 0) _ _
      (ne_eqb (m.standing l.segment l.entry) 0 some))

  pub frees_refused : m.standing l.segment l.entry ≡ 0 → Err refusal.LegNotStanding ≡ frees m l
  frees_refused none =
      sym (cond-true (eqb (m.standing l.segment l.entry) 0) _ _
      (eq-eqb (m.standing l.segment l.entry) 0 none))

  -- as many legs as an admissible leg stand below every critical count: they hold its first slot
  pub few_stand : ShownFits m.shown → admissible m l ≡ true → m.standing l.segment l.entry < most_count
  unfolding load_below
  few_stand fits admitted =
      let i = l.segment in
      let e = l.entry in
      let u = (road m i).slots in
      let known = admitted_known m l admitted in
      let within = admitted_within m l admitted in
      let road_fits = fits.roads_fit i known in
      let takes = road_fits.takes_a_slot in
      let small = road_fits.small_count in
      let held : holds e u e ≡ true =
      and_from (leb e e) (ltb e (e + u)) (le-leb e e (omega arith)) (lt-ltb e (e + u) (omega (arith, takes))) in
      let room = admitted_slots_have_room m l e admitted held in
      let here = cond-true (holds e u e) (m.standing i e) 0 held in
      let part = le_sum (horizon m) (λ k. cond (holds k u e) (m.standing i k) 0) e (omega (arith, within, takes)) in
      omega (arith, room, here, part, small)

-- a bottom book that admits a leg keeps legs, and the leg is in its plan
pub admitted_kept : (s : Shown) (kept : Bool) (held : ℕ → ℕ → ℕ) (l : Leg) → ShownFits s
    → admissible (bottom s kept held) l ≡ true → Keeps s kept l.segment l.entry
admitted_kept s kept held l fits admitted =
    let m = bottom s kept held in
    let known = admitted_known m l admitted in
    let takes = (fits.roads_fit l.segment known).takes_a_slot in
    record {
      keeps = elim (cases_Bool kept) [
        | inl yes' ↦ yes'
        | inr short ↦
            absurd (true≢false (sym admitted
            ∙ sym (ap (λ x. admissible x l) (held_none m))
            ∙ barred_not_admitted 0 m l (ap not short)))
      ];
      known = known;
      within = omega (arith, takes, admitted_within m l admitted);
    }

-- ---- a book that bars every leg, and in which none stands

pub none_reserved : (s : Shown) (l : Leg) → is_ok (reserves (no_legs s true) l) ≡ false
unfolding no_legs
none_reserved s l =
    let m = no_legs s true in
    ap is_ok (cond-false (admissible m l) _ _
    (sym (ap (λ x. admissible x l) (held_none m)) ∙ barred_not_admitted 0 m l refl))

pub none_freed : (s : Shown) (barred : Bool) (l : Leg) → is_ok (frees (no_legs s barred) l) ≡ false
unfolding no_legs
none_freed s barred l = refl
