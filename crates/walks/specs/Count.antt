-- How many numbers below a bound pass a test.
use Rattle.std.specs.Prelude.{ℕ, Bool, cond}
use Rattle.book.specs.Below.{sum_below}

abbrev pub count : ℕ → (ℕ → Bool) → ℕ
count n test = sum_below n (λ k. cond (test k) 1 0)
