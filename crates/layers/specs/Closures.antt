-- The closures that a closure layer keeps.
use Rattle.std.specs.Prelude.{◌≡◌, ℕ, ◌<◌, ◌≤◌, Bool, true, false, List, Some, None, Option}
use Rattle.plan.specs.declared.parts.Closure.{Closure}
use Rattle.layers.specs.declared.closures.ClosureLayer.{ClosureLayer}

abbrev pub kept_closures : {B : Type 0} → ClosureLayer B → List Closure
kept_closures l = l.closures.items

-- the entries from e up to the one before a later slot are closed; none where e is open
abbrev pub ClosedUntil : (ℕ → Bool) → ℕ → Option ℕ → Type 0
ClosedUntil closed e (Some open_again) = (e < open_again) × ((k : ℕ) → e ≤ k → k < open_again → closed k ≡ true)
ClosedUntil closed e None = closed e ≡ false
