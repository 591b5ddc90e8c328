-- A worked example: the first three routes from junction 0 to junction 3 at slot 0, each reserved before the next.
use Rattle.std.specs.Prelude.{ℕ, false, List, [], ◌∷◌}
use Rattle.book.specs.Layered.{closed}
use Rattle.book.specs.Meaning.{Meaning, plus}
use Rattle.book.specs.declared.legs.Leg.{Leg}
use Rattle.walks.specs.Walks.{Chosen, Walk, leg}

-- four junctions below a horizon of 20; segments 0 → 1 of 4 slots, 1 → 3 of 5, 0 → 2 of 5 and 2 → 3 of 4, each with
-- critical count 1; segment 1 is closed in the slots 15 and 16; no leg stands
abbrev pub example : Meaning
example = closed (record { segment = 1; first = 15; end = 17 } ∷ []) (record {
  shown = record {
    horizon = 20;
    junctions = 4;
    roads =
        record { start = 0; end = 1; slots = 4; count = 1 }
        ∷ record { start = 1; end = 3; slots = 5; count = 1 }
        ∷ record { start = 0; end = 2; slots = 5; count = 1 }
        ∷ record { start = 2; end = 3; slots = 4; count = 1 }
        ∷ [];
  };
  standing = λ i e. 0;
  bars = λ i e. false;
})

-- once the first route is reserved, and the second
abbrev pub after_first : Meaning
after_first = plus (plus example (leg 0 0)) (leg 1 4)

abbrev pub after_second : Meaning
after_second = plus (plus after_first (leg 2 0)) (leg 3 5)

-- the chosen route from 0 at slot 0 to 3, and where it ends
pub record Worked (m : Meaning) (a : ℕ) (legs : List Leg) : Type 0 where
  pub chosen : Chosen m 0 0 3 legs
  pub walk : Walk m 0 0 3 a legs

pub record WorkedRoutes : Type 0 where
  pub first : Worked example 9 (leg 0 0 ∷ leg 1 4 ∷ [])
  pub second : Worked after_first 9 (leg 2 0 ∷ leg 3 5 ∷ [])
  -- over segment 1 and over segment 3 the destination is reached at 14: the lower number decides
  pub third : Worked after_second 14 (leg 0 4 ∷ leg 1 9 ∷ [])
