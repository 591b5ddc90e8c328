-- Steps back from a junction, by a table of the earliest slots.
use Rattle.std.specs.Prelude.{◌≡◌, ℕ, ◌-◌, ◌<◌, List, Some, None, Option, MatchOption}
use Rattle.book.specs.Meaning.{Meaning, segments}
use Rattle.walks.specs.Labels.{at}
use Rattle.walks.specs.Tables.{TableInto}
use Rattle.walks.specs.Walks.{from, leg, slots}
use Rattle.search.specs.declared.tracing.Step.{Step}

-- the step over segment i, which can be the last one into v
pub record IsStep (m : Meaning) (best : List ℕ) (v i : ℕ) (s : Step) : Type 0 where
  pub into : TableInto m best v i
  pub leg_is : s.leg ≡ leg i (at best v - slots m i)
  pub starts : s.start ≡ from m i

abbrev pub StepOver : Meaning → List ℕ → ℕ → ℕ → Option Step → Type 0
StepOver m best v i (Some s) = IsStep m best v i s
StepOver m best v i None = TableInto m best v i → ⊥

-- the step by the tie rule: over the first segment over which there is one
abbrev pub StepBack : Meaning → List ℕ → ℕ → Option Step → Type 0
StepBack m best v r =
    MatchOption r ((j : ℕ) → j < segments m → TableInto m best v j → ⊥)
    (λ s. (i : ℕ) × IsStep m best v i s × ((j : ℕ) → j < i → TableInto m best v j → ⊥))
