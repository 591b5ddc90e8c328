-- Which legs can all be reserved, one after the other.
use Rattle.std.specs.Prelude.{◌≡◌, ◌+◌, ◌≤◌, true, List, length}
use Rattle.std.specs.List.{AllByRecursion}
use Rattle.plan.specs.Limits.{most_legs}
use Rattle.book.specs.Loads.{admissible}
use Rattle.book.specs.Meaning.{Meaning, total}
use Rattle.book.specs.declared.legs.Leg.{Leg}
use Rattle.walks.specs.Walks.{Different, segments_of}

-- each is admissible, no two use one segment, and the book has room for all of them
pub record Reservable (m : Meaning) (legs : List Leg) : Type 0 where
  pub admitted : AllByRecursion (λ l. admissible m l ≡ true) legs
  pub apart : Different (segments_of legs)
  pub fits : total m + length legs ≤ most_legs
