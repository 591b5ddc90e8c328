-- Counts of the numbers below a bound that pass a test.
use Rattle.std.proofs.Common.{◌≡◌, ℕ, zero, suc, ◌<◌, ◌≤◌, Bool, true, false, cond, ⊎_elim, arith}
use Rattle.std.proofs.lemmas.Bool.{cases_eq}
use Rattle.walks.specs.Count.{count}

one_le : (b c : Bool) → (b ≡ true → c ≡ true) → cond b 1 0 ≤ cond c 1 0
one_le b c implies = grind arith

one_below : (b : Bool) → cond b 1 0 ≤ 1
one_below b = grind arith

pub count_within : (n : ℕ) (test : ℕ → Bool) → count n test ≤ n
count_within zero test = omega arith
count_within (suc n) test = omega (arith, count_within n test, one_below (test n))

pub count_le : (n : ℕ) (test wider : ℕ → Bool)
    → ((k : ℕ) → k < n → test k ≡ true → wider k ≡ true) → count n test ≤ count n wider
count_le zero test wider implies = omega arith
count_le (suc n) test wider implies =
    omega (
      arith,
      count_le n test wider (λ k below. implies k (omega arith)),
      one_le (test n) (wider n) (implies n (omega arith)),
    )

-- where the number j passes the wider test alone
pub count_less : (n j : ℕ) (test wider : ℕ → Bool)
    → ((k : ℕ) → k < n → test k ≡ true → wider k ≡ true)
    → j < n → test j ≡ false → wider j ≡ true → count n test < count n wider
count_less zero j test wider implies within fails passes = absurd (omega arith)
count_less (suc n) j test wider implies within fails passes =
    ⊎_elim
    (λ (same : j ≡ n).
    let none : test n ≡ false = rw same at fails in
    let one : wider n ≡ true = rw same at passes in
    let rest = count_le n test wider (λ k below. implies k (omega arith)) in
    grind (arith, none, one, rest))
    (λ apart.
    omega (
      arith,
      count_less n j test wider (λ k below. implies k (omega arith)) (omega arith) fails passes,
      one_le (test n) (wider n) (implies n (omega arith)),
    ))
    (cases_eq j n)
