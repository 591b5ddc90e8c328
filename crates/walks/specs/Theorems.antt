-- What holds of chosen routes, whatever finds them.
use Rattle.std.specs.Prelude.{◌≡◌, ℕ, ◌<◌, ◌≤◌, List, length}
use Rattle.book.specs.Meaning.{Meaning, Sound}
use Rattle.book.specs.declared.legs.Leg.{Leg}
use Rattle.walks.specs.Walks.{Chosen, Different, Earliest, SomeWalk, Walk, segments_of, visited}

-- a chosen route is a walk, and ends at E of its destination
abbrev pub ChosenIsAWalk : Type 0
ChosenIsAWalk =
    (m : Meaning) → Sound m → (o t v : ℕ) (legs : List Leg)
    → Chosen m o t v legs → (a : ℕ) × Walk m o t v a legs × Earliest m o t v a

-- said outright: every walk to its destination ends when it does or later
abbrev pub ChosenEndsEarliest : Type 0
ChosenEndsEarliest =
    (m : Meaning) → Sound m → (o t v : ℕ) (legs : List Leg)
    → Chosen m o t v legs
    → (a : ℕ) × Walk m o t v a legs × ((b : ℕ) (others : List Leg) → Walk m o t v b others → a ≤ b)

-- to each junction at most one route is chosen
abbrev pub ChosenIsUnique : Type 0
ChosenIsUnique =
    (m : Meaning) → Sound m → (o t v : ℕ) (legs others : List Leg)
    → Chosen m o t v legs → Chosen m o t v others → legs ≡ others

-- some route to v is chosen
abbrev pub SomeChosen : Meaning → ℕ → ℕ → ℕ → Type 0
SomeChosen m o t v = (legs : List Leg) × Chosen m o t v legs

-- a route is chosen exactly where some walk leads
abbrev pub ChosenExistsWhereAWalkDoes : Type 0
ChosenExistsWhereAWalkDoes =
    (m : Meaning) → Sound m → (o t v : ℕ)
    → (SomeWalk m o t v → SomeChosen m o t v) × (SomeChosen m o t v → SomeWalk m o t v)

-- it is at no junction twice
abbrev pub ChosenVisitsNoJunctionTwice : Type 0
ChosenVisitsNoJunctionTwice =
    (m : Meaning) → Sound m → (o t v : ℕ) (legs : List Leg) → Chosen m o t v legs → Different (visited m o legs)

-- and uses no segment twice
abbrev pub ChosenUsesNoSegmentTwice : Type 0
ChosenUsesNoSegmentTwice =
    (m : Meaning) → Sound m → (o t v : ℕ) (legs : List Leg) → Chosen m o t v legs → Different (segments_of legs)

-- from a known origin it has fewer legs than there are junctions
abbrev pub ChosenIsShort : Type 0
ChosenIsShort =
    (m : Meaning) → Sound m → (o t v : ℕ) (legs : List Leg)
    → o < m.shown.junctions → Chosen m o t v legs → length legs < m.shown.junctions
