-- How the legs of the bookings change with the bookings.
use Rattle.std.proofs.Common.{◌≡◌, ℕ, true, false, eqb, List, [], ◌∷◌, ◌++◌, Some, Option, sym, refl, ap, ◌∙◌, ⊎_elim}
use Rattle.std.proofs.lemmas.List.{append_assoc, append-nil}
use Rattle.std.proofs.lemmas.Bool.{cases_Bool}
use Rattle.book.specs.Meaning.{Meaning}
use Rattle.search.specs.Routes.{legs_of}
use Rattle.bookings.specs.Owed.{bare, changed, legs_by_number, more, moved, over, owed_legs, without}
use Rattle.bookings.specs.declared.states.Booking.{Booking}
use Rattle.bookings.specs.declared.states.State.{State}
use Rattle.bookings.proofs.Adding.{more_append, more_swap}

-- a booking more at the end
legs_granted : (bs : List Booking) (b : Booking) → owed_legs (bs ++ (b ∷ [])) ≡ owed_legs bs ++ legs_of b.route
legs_granted [] b = append-nil (legs_of b.route)
legs_granted (x ∷ bs) b =
    ap (λ legs. legs_of x.route ++ legs) (legs_granted bs b)
    ∙ sym (append_assoc (legs_of x.route) (owed_legs bs) (legs_of b.route))

pub over_granted : (w : Meaning) (bs : List Booking) (b : Booking)
    → more (over w bs) (legs_of b.route) ≡ over w (bs ++ (b ∷ []))
over_granted w bs b =
    more_append (bare w) (owed_legs bs) (legs_of b.route) ∙ ap (more (bare w)) (sym (legs_granted bs b))

-- a booking in another state
legs_moved : (n : ℕ) (s : State) (bs : List Booking) → owed_legs (moved n s bs) ≡ owed_legs bs
legs_moved n s [] = refl
legs_moved n s (b ∷ bs) =
    ⊎_elim
    (λ (here : eqb b.number n ≡ true). simp here)
    (λ (there : eqb b.number n ≡ false).
    simp there (ap (λ legs. legs_of b.route ++ legs) (legs_moved n s bs)))
    (cases_Bool (eqb b.number n))

pub over_moved : (w : Meaning) (n : ℕ) (next : Option State) (s : State) (bs : List Booking) → next ≡ Some s
    → over w bs ≡ over w (changed next n bs)
over_moved w n next s bs is =
    ap (more (bare w)) (sym (legs_moved n s bs)) ∙ ap (λ x. over w (changed x n bs)) (sym is)

-- a booking less
more_without : (m : Meaning) (n : ℕ) (bs : List Booking)
    → more m (owed_legs bs) ≡ more (more m (owed_legs (without n bs))) (legs_by_number n bs)
more_without m n [] = refl
more_without m n (b ∷ bs) =
    let legs = legs_of b.route in
    let first = sym (more_append m legs (owed_legs bs)) in
    ⊎_elim
    (λ (here : eqb b.number n ≡ true). simp here (first ∙ more_swap m legs (owed_legs bs)))
    (λ (there : eqb b.number n ≡ false).
    simp there
    (first
    ∙ more_without (more m legs) n bs
    ∙ ap (λ x. more x (legs_by_number n bs)) (more_append m legs (owed_legs (without n bs)))))
    (cases_Bool (eqb b.number n))

pub over_without : (w : Meaning) (n : ℕ) (bs : List Booking)
    → over w bs ≡ more (over w (without n bs)) (legs_by_number n bs)
over_without w n bs = more_without (bare w) n bs
