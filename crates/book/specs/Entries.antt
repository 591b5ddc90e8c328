-- The smallest admissible entry of a segment from a slot on.
use Rattle.std.specs.Prelude.{◌≡◌, ℕ, ◌<◌, ◌≤◌, true, false, Some, None, Option}
use Rattle.book.specs.Loads.{admissible}
use Rattle.book.specs.Meaning.{Meaning}

pub record IsNext (m : Meaning) (i from e : ℕ) : Type 0 where
  pub later : from ≤ e
  pub fits : admissible m (record { segment = i; entry = e }) ≡ true
  pub first : (k : ℕ) → from ≤ k → admissible m (record { segment = i; entry = k }) ≡ true → e ≤ k

-- none where no entry from there on is admissible
abbrev pub NextEntry : Meaning → ℕ → ℕ → Option ℕ → Type 0
NextEntry m i from (Some e) = IsNext m i from e
NextEntry m i from None = (k : ℕ) → from ≤ k → admissible m (record { segment = i; entry = k }) ≡ false

-- no entry from `from` on and below `to` is admissible
unfoldable pub NoneBetween : Meaning → ℕ → ℕ → ℕ → Type 0
NoneBetween m i from to =
    (k : ℕ) → from ≤ k → k < to → admissible m (record { segment = i; entry = k }) ≡ false
