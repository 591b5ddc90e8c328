-- What a request comes to.
use Rattle.std.proofs.Common.{◌≡◌, ℕ, ◌+◌, ◌≤◌, true, List, [], ◌∷◌, length, Ok, Err, refl}
use Rattle.std.specs.List.{AllByRecursion}
use Rattle.plan.specs.Limits.{most_legs}
use Rattle.plan.specs.declared.refusals.Refusal.{Refusal}
use Rattle.book.specs.Loads.{admissible}
use Rattle.book.specs.Meaning.{Meaning, Sound, total}
use Rattle.book.specs.declared.legs.Leg.{Leg}
use Rattle.search.specs.Finds.{Granted}
use Rattle.search.specs.Requests.{checks}
use Rattle.walks.specs.Walks.{Walk, end_of, to}
use Rattle.walks.specs.declared.requests.Request.{Request}
use Rattle.walks.proofs.Visiting.{chosen_segments}
use Rattle.bookings.specs.Answers.{before_search, vacancy}
use Rattle.bookings.specs.Reserving.{Reservable}

module _ (m : Meaning) (n k : ℕ) (q : Request) (room : ℕ) where
  -- a request that the checks refuse is refused so
  pub refused_by_checks : (x : Refusal) → checks m q room ≡ Err x → before_search m n k q room ≡ Err x
  refused_by_checks x refused = rw refused refl

  -- after the checks the register decides
  pub past_checks : checks m q room ≡ Ok tt → before_search m n k q room ≡ vacancy n k
  past_checks passed = rw passed refl

-- the legs of a granted route can all be reserved, where the total stays within what a book may have
walk_admissible : (m : Meaning) (o t v a : ℕ) (legs : List Leg) → Walk m o t v a legs
    → AllByRecursion (λ l. admissible m l ≡ true) legs
walk_admissible m o t v a [] walk = tt
walk_admissible m o t v a (l ∷ legs) walk =
    (walk.0.fits, walk_admissible m (to m l.segment) (end_of m l) v a legs walk.1)

pub granted_reservable : (m : Meaning) → Sound m → (q : Request) (legs : List Leg) → Granted m q legs
    → total m + length legs ≤ most_legs → Reservable m legs
granted_reservable m sound q legs granted fits = record {
  admitted = walk_admissible m q.origin q.slot q.destination granted.arrival legs granted.walk;
  apart = chosen_segments m sound q.origin q.slot q.destination legs granted.chosen;
  fits = fits;
}
