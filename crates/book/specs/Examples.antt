-- Worked entries: which legs of a segment with critical count 1 are admissible below a horizon of 20.
use Rattle.std.specs.Prelude.{◌≡◌, ℕ, zero, suc, Bool, false, cond, List, [], ◌∷◌, ◌++◌, ◌==◌}
use Rattle.book.specs.Loads.{admissible}
use Rattle.book.specs.Meaning.{Meaning}

-- one segment with so many travel slots and critical count 1, nothing barred, and legs standing by their entry
abbrev pub single_road : ℕ → (ℕ → ℕ) → Meaning
single_road slots standing = record {
  shown = record {
    horizon = 20;
    junctions = 2;
    roads = record { start = 0; end = 1; slots = slots; count = 1 } ∷ [];
  };
  standing = λ i e. cond (i == 0) (standing e) 0;
  bars = λ i e. false;
}

abbrev pub none_standing : ℕ → ℕ
none_standing e = 0

-- one leg, entered at 4
abbrev pub one_at_four : ℕ → ℕ
one_at_four e = cond (e == 4) 1 0

-- the numbers below n that pass the test, in ascending order
abbrev pub passing : ℕ → (ℕ → Bool) → List ℕ
passing zero test = []
passing (suc n) test = passing n test ++ cond (test n) (n ∷ []) []

abbrev pub admissible_entries : Meaning → List ℕ
admissible_entries m = passing 20 (λ e. admissible m (record { segment = 0; entry = e }))

pub record WorkedEntries : Type 0 where
  -- a leg of 4 slots entered at 4 rules out the entries 1 to 7
  pub four_slots : admissible_entries (single_road 4 one_at_four)
      ≡ 0 ∷ 8 ∷ 9 ∷ 10 ∷ 11 ∷ 12 ∷ 13 ∷ 14 ∷ 15 ∷ 16 ∷ []
  -- one of 5 slots the entries 0 to 8
  pub five_slots : admissible_entries (single_road 5 one_at_four)
      ≡ 9 ∷ 10 ∷ 11 ∷ 12 ∷ 13 ∷ 14 ∷ 15 ∷ []
  -- with none standing the last entry of a leg of 5 slots is 15
  pub empty : admissible_entries (single_road 5 none_standing)
      ≡ 0 ∷ 1 ∷ 2 ∷ 3 ∷ 4 ∷ 5 ∷ 6 ∷ 7 ∷ 8 ∷ 9 ∷ 10 ∷ 11 ∷ 12 ∷ 13 ∷ 14 ∷ 15 ∷ []
