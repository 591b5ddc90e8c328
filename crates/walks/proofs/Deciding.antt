-- What can be decided, and the first number below a bound that has a property.
use Rattle.std.proofs.Common.{◌≡◌, ℕ, zero, suc, ◌<◌, Bool, true, false, ◌⊎◌, refl, subst, inl, inr, ⊎_elim, arith}
use Rattle.std.proofs.lemmas.Bool.{both_ways, cases_eq}

pub dec_true : (b : Bool) → Dec (b ≡ true)
dec_true true = yes refl
dec_true false = no (λ e. both_ways false refl e)

-- both, where the second is decided under the first
pub dec_and : {A B : Type 0} → Dec A → (A → Dec B) → Dec (A × B)
dec_and {A} {B} (yes a) second = both (second a)
  where
    both : Dec B → Dec (A × B)
    both (yes b) = yes (a, b)
    both (no not_b) = no (λ x. not_b x.1)
dec_and (no not_a) second = no (λ x. not_a x.0)

pub record First (n : ℕ) (P : ℕ → Type 0) : Type 0 where
  pub at : ℕ
  pub within : at < n
  pub holds : P at
  pub none_before : (j : ℕ) → j < at → P j → ⊥

pub find_first : (n : ℕ) (P : ℕ → Type 0) → ((k : ℕ) → k < n → Dec (P k))
    → First n P ⊎ ((k : ℕ) → k < n → P k → ⊥)
find_first zero P decide = inr (λ k within p. omega arith)
find_first (suc n) P decide =
    ⊎_elim
    (λ first. inl (record {
      at = first.at;
      within = let below = first.within in omega arith;
      holds = first.holds;
      none_before = first.none_before;
    }))
    (λ none. here none (decide n (omega arith)))
    (find_first n P (λ k within. decide k (omega arith)))
  where
    here : ((k : ℕ) → k < n → P k → ⊥) → Dec (P n) → First (suc n) P ⊎ ((k : ℕ) → k < suc n → P k → ⊥)
    here none (yes p) = inl (record { at = n; within = omega arith; holds = p; none_before = none })
    here none (no not_p) =
        inr (λ k within p.
        ⊎_elim (λ (same : k ≡ n). not_p (subst P same p)) (λ apart. none k (omega arith) p) (cases_eq k n))

pub dec_some : (n : ℕ) (P : ℕ → Type 0) → ((k : ℕ) → k < n → Dec (P k)) → Dec ((k : ℕ) × (k < n) × P k)
dec_some n P decide =
    ⊎_elim
    (λ first. yes (first.at, first.within, first.holds))
    (λ none. no (λ x. none x.0 x.1 x.2))
    (find_first n P decide)
