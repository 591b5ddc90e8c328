-- Sums over the numbers below a bound.
use Rattle.std.proofs.Common.{◌≡◌, ℕ, zero, suc, ◌+◌, ◌<◌, ◌≤◌, Bool, true, cond, eqb, ltb, sym, refl, ap, ◌∙◌, subst, ⊎_elim, arith}
use Rattle.std.proofs.lemmas.Bool.{and_from, and_parts, cases_eq, ne_eqb}
use Rattle.book.specs.Below.{all_below, sum_below}

pub sum_add : (n : ℕ) (f g : ℕ → ℕ) → sum_below n (λ k. f k + g k) ≡ sum_below n f + sum_below n g
sum_add zero f g = refl
sum_add (suc n) f g = let before = sum_add n f g in omega arith

pub sum_le : (n : ℕ) (f g : ℕ → ℕ) → ((k : ℕ) → f k ≤ g k) → sum_below n f ≤ sum_below n g
sum_le zero f g below = omega arith
sum_le (suc n) f g below = omega (arith, sum_le n f g below, below n)

pub sum_same : (n : ℕ) (f g : ℕ → ℕ) → ((k : ℕ) → f k ≡ g k) → sum_below n f ≡ sum_below n g
sum_same zero f g same = refl
sum_same (suc n) f g same = omega (arith, sum_same n f g same, same n)

pub sum_zero : (n : ℕ) → sum_below n (λ _. 0) ≡ 0
sum_zero zero = refl
sum_zero (suc n) = omega (arith, sum_zero n)

-- a sum with one term that is not 0
pub sum_point : (n j c : ℕ) → sum_below n (λ k. cond (eqb j k) c 0) ≡ cond (ltb j n) c 0
sum_point zero j c = grind arith
sum_point (suc n) j c = grind (arith, sum_point n j c)

pub all_at : (n : ℕ) (test : ℕ → Bool) (k : ℕ) → all_below n test ≡ true → k < n → test k ≡ true
all_at zero test k all within = absurd (omega arith)
all_at (suc n) test k all within =
    let both = and_parts (all_below n test) (test n) all in
    ⊎_elim (λ same. rw same both.1) (λ apart. all_at n test k both.0 (omega arith)) (cases_eq k n)

-- the term at j
pub sum_at : (n j : ℕ) (f : ℕ → ℕ) → sum_below n (λ k. cond (eqb j k) (f k) 0) ≡ cond (ltb j n) (f j) 0
sum_at n j f = sum_same n _ _ here ∙ sum_point n j (f j)
  where
    here : (k : ℕ) → cond (eqb j k) (f k) 0 ≡ cond (eqb j k) (f j) 0
    here k =
        ⊎_elim (λ same. ap (λ i. cond (eqb j k) (f i) 0) (sym same)) (λ apart. let no = ne_eqb j k apart in grind (arith, no))
        (cases_eq j k)

pub le_sum : (n : ℕ) (f : ℕ → ℕ) (k : ℕ) → k < n → f k ≤ sum_below n f
le_sum zero f k within = absurd (omega arith)
le_sum (suc n) f k within =
    ⊎_elim (λ same. subst (λ i. f i ≤ sum_below n f + f n) (sym same) (omega arith))
    (λ apart. omega (arith, le_sum n f k (omega arith))) (cases_eq k n)

pub all_weaker : (n : ℕ) (test weaker : ℕ → Bool) → ((k : ℕ) → test k ≡ true → weaker k ≡ true)
    → all_below n test ≡ true → all_below n weaker ≡ true
all_weaker zero test weaker step all = refl
all_weaker (suc n) test weaker step all =
    let both = and_parts (all_below n test) (test n) all in
    and_from (all_below n weaker) (weaker n) (all_weaker n test weaker step both.0) (step n both.1)
