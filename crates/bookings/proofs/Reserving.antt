-- The k-th leg of a list that is reserved or freed leg by leg.
use Rattle.std.proofs.Common.{◌≡◌, ℕ, zero, suc, ◌+◌, ◌<◌, true, ◌≢◌, List, [], ◌∷◌, ◌++◌, length, get_or, take, drop, sym, ap, ◌∙◌, subst, arith}
use Rattle.std.proofs.ByRecursion.{All-get_or}
use Rattle.std.proofs.lemmas.List.{drop_more, length-take-le, take_more}
use Rattle.std.specs.List.{AllByRecursion}
use Rattle.plan.specs.Limits.{most_legs}
use Rattle.book.specs.Calls.{Answer, Freed, Reserved}
use Rattle.book.specs.Loads.{admissible}
use Rattle.book.specs.Meaning.{Meaning, plus, total}
use Rattle.book.specs.declared.legs.Leg.{Leg}
use Rattle.walks.specs.Walks.{Different, segments_of}
use Rattle.bookings.specs.Owed.{more}
use Rattle.bookings.specs.Reserving.{Reservable}
use Rattle.bookings.proofs.Adding.{admissible_more, freed_one, more_append, more_plus, reserved_one, total_more}

-- of legs on different segments, those before the k-th use other segments than it
apart_before : (ls : List Leg) (k : ℕ) (d : Leg) → k < length ls → Different (segments_of ls)
    → AllByRecursion (λ l. l.segment ≢ (get_or ls k d).segment) (take k ls)
apart_before [] k d within apart = absurd (omega arith)
apart_before (l ∷ ls) zero d within apart = tt
apart_before (l ∷ ls) (suc k) d within apart = (
  λ same. other ls k d (omega arith) apart.0 (sym same),
  apart_before ls k d (omega arith) apart.1,
)
  where
    other : (ls : List Leg) (k : ℕ) (d : Leg) → k < length ls → AllByRecursion (λ i. i ≢ l.segment) (segments_of ls)
        → (get_or ls k d).segment ≢ l.segment
    other [] k d within apart = absurd (omega arith)
    other (x ∷ ls) zero d within apart = apart.0
    other (x ∷ ls) (suc k) d within apart = other ls k d (omega arith) apart.1

module _ (m before after : Meaning) (ls : List Leg) (k : ℕ) (l : Leg) (within : k < length ls)
    (read : l ≡ get_or ls k l) (r : Answer) where
  -- it is still admissible, and there is still room for it
  still_admissible : Reservable m ls → before ≡ more m (take k ls) → admissible before l ≡ true
  still_admissible ok is =
      let others =
      subst (λ (x : Leg). AllByRecursion (λ y. y.segment ≢ x.segment) (take k ls)) (sym read)
      (apart_before ls k l within ok.apart) in
      ap (λ x. admissible x l) is
      ∙ admissible_more m (take k ls) l others
      ∙ subst (λ (x : Leg). admissible m x ≡ true) (sym read)
      (All-get_or (λ x. admissible m x ≡ true) ls k l within ok.admitted)

  still_fits : Reservable m ls → before ≡ more m (take k ls) → total before < most_legs
  still_fits ok is =
      let short : length (take k ls) ≡ k = length-take-le k ls (omega arith) in
      omega (arith, ap total is, total_more m (take k ls), ok.fits)

  pub reserve_next : Reserved before l r after → Reservable m ls → before ≡ more m (take k ls)
      → after ≡ more m (take (k + 1) ls)
  reserve_next reserved ok is =
      reserved_one before after l r reserved (still_admissible ok is) (still_fits ok is)
      ∙ ap (λ x. plus x l) is
      ∙ more_append m (take k ls) (l ∷ [])
      ∙ ap (more m) (ap (λ x. take k ls ++ (x ∷ [])) read ∙ sym (take_more ls k l within))

  pub free_next : Freed before l r after → before ≡ more m (drop k ls) → after ≡ more m (drop (k + 1) ls)
  free_next freed is =
      let rest = drop (k + 1) ls in
      freed_one (more m rest) before after l r
      (is
      ∙ ap (more m) (drop_more ls k l within ∙ ap (λ x. x ∷ rest) (sym read))
      ∙ more_plus m l rest)
      freed
