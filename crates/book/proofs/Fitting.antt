-- Which entries fit into a row of entering counts, slot by slot.
use Rattle.std.proofs.Common.{◌≡◌, ℕ, zero, suc, ◌+◌, ◌-◌, ◌<◌, ◌≤◌, min, Bool, true, false, ltb, leb, List, length, get_or, Some, None, sym, refl, ap, ◌∙◌, subst, inl, inr, ⊎_elim, arith}
use Rattle.std.proofs.lemmas.Bool.{and_from, and_left, and_parts, cases_Bool, cases_eq, cases_lt, cond-false, cond-true, le-leb, le-ltb, lt-leb, lt-ltb, ltb-true, true≢false}
use Rattle.book.specs.Below.{all_below}
use Rattle.book.specs.Loads.{load_below}
use Rattle.book.specs.Rows.{FirstFit, NoneFits, Open, entering, fits, row_load}
use Rattle.book.proofs.Sums.{all_at}
use Rattle.book.proofs.Windows.{window_all, window_first, window_grows, window_more, window_none, window_slides}

all_from : (n : ℕ) (test : ℕ → Bool) → ((k : ℕ) → k < n → test k ≡ true) → all_below n test ≡ true
all_from zero test each = refl
all_from (suc n) test each =
    and_from (all_below n test) (test n) (all_from n test (λ k below. each k (omega arith))) (each n (omega arith))

-- ---- the load of a slot

-- those that enter as many slots before a slot as a leg takes, or earlier, do not hold it
pub none_entered : (row : List ℕ) (u first t : ℕ) → first ≤ t + 1 - u → load_below first (entering row) u t ≡ 0
none_entered row u first t early =
    ⊎_elim
    (λ short. window_first (entering row) u first t (omega arith))
    (λ past. window_none (entering row) u first t (omega arith))
    (cases_lt (t + 1) u)

-- those that enter after a slot do not hold it
pub load_by_end : (row : List ℕ) (u t : ℕ) → load_below (min (t + 1) (length row)) (entering row) u t ≡ row_load row u t
load_by_end row u t =
    ⊎_elim
    (λ within.
    ap (λ n. load_below n (entering row) u t) (let is : min (t + 1) (length row) ≡ t + 1 = omega arith in is)
    ∙ sym (window_all (entering row) u (length row) t within))
    (λ past. ap (λ n. load_below n (entering row) u t)
    (let is : min (t + 1) (length row) ≡ length row = omega arith in is))
    (cases_lt t (length row))

-- ---- the load of the next slot

module _ (row : List ℕ) (u : ℕ) (some : 1 ≤ u) where
  -- those that entered before a slot and hold it, and those that enter there
  pub load_enters : (t : ℕ) → t < length row
      → load_below t (entering row) u t + get_or row t 0 ≡ row_load row u t
  load_enters t within =
      sym (window_more (entering row) u t t (omega arith) (omega arith))
      ∙ sym (window_all (entering row) u (length row) t within)

  -- those that entered u slots before the next slot do not hold it
  pub load_leaves : (t : ℕ) → t < length row → u ≤ t + 1
      → load_below (t + 1) (entering row) u (t + 1) + get_or row (t + 1 - u) 0 ≡ row_load row u t
  load_leaves t within past =
      let slides = window_slides (entering row) u (t + 1) t some past in
      let gone = cond-true (ltb (t + 1 - u) (t + 1)) (get_or row (t + 1 - u) 0) 0
      (lt-ltb (t + 1 - u) (t + 1) (omega arith)) in
      let not_yet = cond-false (ltb (t + 1) (t + 1)) (get_or row (t + 1) 0) 0 (le-ltb (t + 1) (t + 1) (omega arith)) in
      omega (arith, slides, gone, not_yet, window_all (entering row) u (length row) t within)

  pub load_stays : (t : ℕ) → t < length row → t + 1 < u
      → load_below (t + 1) (entering row) u (t + 1) ≡ row_load row u t
  load_stays t within early =
      let grows = window_grows (entering row) u (t + 1) t some early in
      let not_yet = cond-false (ltb (t + 1) (t + 1)) (get_or row (t + 1) 0) 0 (le-ltb (t + 1) (t + 1) (omega arith)) in
      omega (arith, grows, not_yet, window_all (entering row) u (length row) t within)

-- ---- which entries fit

module _ (row : List ℕ) (u limit : ℕ) where
  fits_open : (e : ℕ) → e + u ≤ length row → Open row u limit e (e + u) → fits row u limit e ≡ true
  unfolding fits Open
  fits_open e within room =
      and_from (leb (e + u) (length row)) _ (le-leb (e + u) (length row) within)
      (all_from u (λ k. ltb (row_load row u (e + k)) limit)
      (λ k below. lt-ltb (row_load row u (e + k)) limit (room (e + k) (omega arith) (omega arith))))

  -- a leg that would hold a full slot does not fit
  fits_not : (e t : ℕ) → e ≤ t → t < e + u → limit ≤ row_load row u t → fits row u limit e ≡ false
  unfolding fits
  fits_not e t from to full =
      elim (cases_Bool (fits row u limit e)) [
        | inl yes' ↦
            let test : ℕ → Bool = λ k. ltb (row_load row u (e + k)) limit in
            let all = (and_parts (leb (e + u) (length row)) (all_below u test) yes').1 in
            let at = all_at u test (t - e) all (omega arith) in
            let here : e + (t - e) ≡ t = omega arith in
            let room : row_load row u t < limit =
            ltb-true _ _ (subst (λ s. ltb (row_load row u s) limit ≡ true) here at) in
            absurd (omega (arith, room, full))
        | inr not_so ↦ not_so
      ]

  pub fits_ends : (e : ℕ) → length row < e + u → fits row u limit e ≡ false
  unfolding fits
  fits_ends e past = and_left (leb (e + u) (length row)) _ (lt-leb (e + u) (length row) past)

  -- ---- a search slot by slot

  pub none_fits_yet : (from : ℕ) → NoneFits row u limit from from
  unfolding NoneFits
  none_fits_yet from k later below = absurd (omega arith)

  -- past a full slot no entry from before it fits
  pub none_fits_on : (from e t : ℕ) → NoneFits row u limit from e → t < e + u → limit ≤ row_load row u t
      → NoneFits row u limit from (t + 1)
  unfolding NoneFits
  none_fits_on from e t none near full k later below =
      ⊎_elim (λ before. none k later before) (λ on. fits_not k t (omega arith) (omega arith) full) (cases_lt k e)

  pub open_yet : (t : ℕ) → Open row u limit t t
  unfolding Open
  open_yet t k later below = absurd (omega arith)

  pub open_more : (from t : ℕ) → Open row u limit from t → row_load row u t < limit → Open row u limit from (t + 1)
  unfolding Open
  open_more from t room here k later below =
      ⊎_elim
      (λ same. subst (λ s. row_load row u s < limit) (sym same) here)
      (λ apart. room k later (omega arith))
      (cases_eq k t)

  pub first_fit : (from to e : ℕ) → NoneFits row u limit from e → from ≤ e → e ≤ to → e + u ≤ length row
      → Open row u limit e (e + u) → FirstFit row from to u limit (Some e)
  unfolding NoneFits
  first_fit from to e none later by_then within room =
      record {
        later = later;
        by_then = by_then;
        here = fits_open e within room;
        first = λ k from_on fit.
            ⊎_elim (λ below. absurd (true≢false (sym fit ∙ none k from_on below))) (λ past. past) (cases_lt k e);
      }

  pub none_fits : (from to e : ℕ) → NoneFits row u limit from e → to < e → FirstFit row from to u limit None
  unfolding NoneFits
  none_fits from to e none past k later by_then = none k later (omega arith)

  -- where the search is past the row, or past the slots of a leg that enters at the last entry
  pub none_fits_after : (from to e end : ℕ) → NoneFits row u limit from e → end < e + u
      → min (to + u) (length row) ≤ end
      → FirstFit row from to u limit None
  unfolding NoneFits
  none_fits_after from to e end none short ends k later by_then =
      ⊎_elim (λ before. none k later before) (λ on. fits_ends k (omega arith)) (cases_lt k e)
