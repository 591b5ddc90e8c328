-- The first booking with a number: its place, and what the words of the register come to there.
use Rattle.std.proofs.Common.{◌≡◌, ℕ, ◌<◌, true, false, cond, eqb, Bool, List, [], ◌∷◌, length, get_or, set, Some, None, Option, sym, refl, ap, ◌∙◌, ap₂, ⊎_elim, ◌==◌, arith}
use Rattle.std.proofs.lemmas.Bool.{cases_Bool}
use Rattle.std.proofs.lemmas.List.Folds.{find_at}
use Rattle.std.proofs.lemmas.List.Recursion.{is_position_or_len}
use Rattle.std.proofs.lemmas.Option.{slice_get_past, slice_get_read}
use Rattle.std.specs.List.{position, position_or_len, remove}
use Rattle.std.specs.Option.{option_map}
use Rattle.book.specs.declared.legs.Leg.{Leg}
use Rattle.search.specs.Routes.{legs_of}
use Rattle.search.specs.declared.route.Route.{Route}
use Rattle.bookings.specs.Owed.{in_state, legs_by_number, moved, stands, without}
use Rattle.bookings.specs.Registers.{first_with, place}
use Rattle.bookings.specs.States.{code}
use Rattle.bookings.specs.declared.states.Booking.{Booking}
use Rattle.bookings.specs.declared.states.State.{State}

-- ---- by the booking found

abbrev pub stands_in : State → Option Booking → Bool
stands_in s (Some b) = eqb (code b.state) (code s)
stands_in s None = false

pub stands_found : (n : ℕ) (s : State) (bs : List Booking) → stands n s bs ≡ stands_in s (first_with n bs)
stands_found n s [] = refl
stands_found n s (b ∷ bs) =
    ⊎_elim
    (λ (here : eqb b.number n ≡ true). simp here)
    (λ (there : eqb b.number n ≡ false). simp there (stands_found n s bs))
    (cases_Bool (eqb b.number n))

abbrev pub legs_in : Option Route → List Leg
legs_in (Some route) = legs_of route
legs_in None = []

pub legs_found : (n : ℕ) (bs : List Booking) → legs_in (option_map (λ b. b.route) (first_with n bs)) ≡ legs_by_number n bs
legs_found n [] = refl
legs_found n (b ∷ bs) =
    ⊎_elim
    (λ (here : eqb b.number n ≡ true). simp here)
    (λ (there : eqb b.number n ≡ false). simp there (legs_found n bs))
    (cases_Bool (eqb b.number n))

-- ---- by its place

moved_at : (n : ℕ) (s : State) (bs : List Booking) (d : Booking) → place n bs < length bs
    → moved n s bs ≡ set bs (place n bs) (in_state (get_or bs (place n bs) d) s)
moved_at n s [] d within = absurd (omega arith)
moved_at n s (b ∷ bs) d within =
    ⊎_elim
    (λ (here : eqb b.number n ≡ true). simp here)
    (λ (there : eqb b.number n ≡ false). simp there (ap (λ xs. b ∷ xs) (moved_at n s bs d (grind (arith, there)))))
    (cases_Bool (eqb b.number n))

without_at : (n : ℕ) (bs : List Booking) → place n bs < length bs → without n bs ≡ remove bs (place n bs)
without_at n [] within = absurd (omega arith)
without_at n (b ∷ bs) within =
    ⊎_elim
    (λ (here : eqb b.number n ≡ true). simp here)
    (λ (there : eqb b.number n ≡ false). simp there (ap (λ xs. b ∷ xs) (without_at n bs (grind (arith, there)))))
    (cases_Bool (eqb b.number n))

place_is : (n : ℕ) (bs : List Booking) → place n bs ≡ position_or_len (λ b. b.number == n) bs
place_is n bs =
    is_position_or_len (place n) (λ b. b.number == n) refl (λ b bs. ap (cond (b.number == n) 0) (omega arith)) bs

-- ---- what the search for the place tells

pub stands_nowhere : (n : ℕ) (s : State) (bs : List Booking) → None ≡ position (λ b. b.number == n) bs
    → stands n s bs ≡ false
stands_nowhere n s bs none =
    let first = find_at (λ b. b.number == n) bs ∙ slice_get_past bs _ (grind (arith, none)) in
    stands_found n s bs ∙ ap (stands_in s) first

-- the booking b that is read at the place i
module _ (n : ℕ) (bs : List Booking) (i : ℕ) (b : Booking) (found : Some i ≡ position (λ b. b.number == n) bs)
    (read : b ≡ get_or bs i b) where
  at : i ≡ place n bs
  at = let same = place_is n bs in grind (arith, found, same)

  pub within : i < length bs
  within = grind (arith, found)

  first_here : first_with n bs ≡ Some b
  first_here =
      let here : i ≡ position_or_len (λ b. b.number == n) bs = at ∙ place_is n bs in
      find_at (λ b. b.number == n) bs ∙ slice_get_read bs (length bs) _ b refl (omega (arith, within, here)) (read ∙ ap (λ k. get_or bs k b) here)

  pub stands_here : (s : State) → stands n s bs ≡ eqb (code b.state) (code s)
  stands_here s = stands_found n s bs ∙ ap (stands_in s) first_here

  pub legs_here : legs_by_number n bs ≡ legs_of b.route
  legs_here = sym (legs_found n bs) ∙ ap (λ r. legs_in (option_map (λ (x : Booking). x.route) r)) first_here

  pub moved_here : (s : State) → moved n s bs ≡ set bs i (in_state b s)
  moved_here s =
      moved_at n s bs b (omega (arith, within, at))
      ∙ ap₂ (λ k (x : Booking). set bs k (in_state x s)) (sym at) (sym (read ∙ ap (λ k. get_or bs k b) at))

  pub without_here : without n bs ≡ remove bs i
  without_here = without_at n bs (omega (arith, within, at)) ∙ ap (remove bs) (sym at)
