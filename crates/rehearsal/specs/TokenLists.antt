-- Lists of tokens, by the numbers of their bookings.
use Rattle.std.specs.Prelude.{◌≡◌, ℕ, ◌+◌, cond, List, Some, None, count_by, Option, ◌==◌}
use Rattle.controller.specs.declared.tokens.Token.{Token}

module _ {K : Type 0} where
  -- how many of the tokens have the number n
  unfoldable pub out : List (Token K) → ℕ → ℕ
  out ts n = count_by (λ t. t.number == n) ts

  -- a token with the number n is taken out of ts
  pub record TakenOut (ts : List (Token K)) (n : ℕ) (t : Token K) (us : List (Token K)) : Type 0 where
    pub is : t.number ≡ n
    pub left : (k : ℕ) → out us k + cond (n == k) 1 0 ≡ out ts k

  -- or none has it, and all stay
  abbrev pub Taken : List (Token K) → ℕ → Option (Token K) → List (Token K) → Type 0
  Taken ts n (Some t) us = TakenOut ts n t us
  Taken ts n None us = (out ts n ≡ 0) × (us ≡ ts)
