-- After a grant the controller tells the route that it granted.
use Rattle.std.proofs.Common.{◌≡◌, ℕ, ◌<◌, ◌≤◌, List, [], ◌∷◌, ◌++◌, Some, Option, sym, refl, ap, ◌∙◌, subst₂, arith}
use Rattle.std.specs.Option.{option_map}
use Rattle.std.specs.List.{AllByRecursion}
use Rattle.std.proofs.lemmas.Bool.{cond-true, eq-eqb}
use Rattle.std.proofs.lemmas.Bool.Decides.{nat_tests}
use Rattle.book.specs.Meaning.{Meaning}
use Rattle.search.specs.declared.route.Route.{Route}
use Rattle.walks.specs.declared.requests.Request.{Request}
use Rattle.bookings.specs.Registers.{first_with}
use Rattle.bookings.specs.Steps.{Step, listed}
use Rattle.bookings.specs.declared.calls.Answer.TheVariants.{Granted}
use Rattle.bookings.specs.declared.calls.Call.TheVariants.{Ask}
use Rattle.bookings.specs.declared.register.Register.{Register}
use Rattle.bookings.specs.declared.states.Booking.{Booking}
use Rattle.bookings.specs.declared.states.State.TheVariants.{Held}
use Rattle.histories.specs.Courses.{Made}
use Rattle.histories.specs.Tokens.{Numbered}

-- a booking with a number above all others is the first with it
first_pushed : (k : ℕ) (bs : List Booking) (b : Booking) → AllByRecursion (λ c. c.number ≤ k) bs → k < b.number
    → first_with b.number (bs ++ b ∷ []) ≡ Some b
first_pushed k [] b given above = cond-true _ _ _ (eq-eqb b.number b.number refl)
first_pushed k (c ∷ bs) b given above =
    grind (arith, nat_tests, given.0, first_pushed k bs b given.1 above)

module _ (m m' : Meaning) (g g' : Register) (q : Request) (room n : ℕ) (route : Route) where
  abbrev told_for : ℕ → Option Route
  told_for k = option_map (λ (b : Booking). b.route) (first_with k (listed g'))

  told_route : Numbered g.last (listed g) → Step m g (Ask q room) (Granted n route) m' g'
      → told_for n ≡ Some route
  told_route numbered step =
      ap (λ bs. option_map (λ (b : Booking). b.route) (first_with n bs)) step.owes
      ∙ ap (option_map (λ (b : Booking). b.route))
      (first_pushed g.last (listed g) (record { number = n; state = Held; route = route }) numbered.given
      (omega (arith, step.answers.0)))

  -- the route that the controller tells for the number is the one granted
  pub asked_granted : (number : ℕ) (told : Route) → Numbered g.last (listed g)
      → Step m g (Ask q room) (Granted n route) m' g' → number ≡ n → told_for number ≡ Some told
      → Made m g (Ask q room) (Granted number told) m' g'
  asked_granted number told numbered step same_number is =
      let also : Some told ≡ Some route = sym is ∙ ap told_for same_number ∙ told_route numbered step in
      let same_route : told ≡ route = cc in
      subst₂ (λ k r. Made m g (Ask q room) (Granted k r) m' g') (sym same_number) (sym same_route)
      record { step = step; told = tt }

  pub told_some : Numbered g.last (listed g) → Step m g (Ask q room) (Granted n route) m' g' → (number : ℕ)
      → number ≡ n → told_for number ≡ Some route
  told_some numbered step number same_number = ap told_for same_number ∙ told_route numbered step
