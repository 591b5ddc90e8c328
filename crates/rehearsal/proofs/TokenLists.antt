-- Lists of tokens that are searched, shortened and lengthened.
use Rattle.std.proofs.Common.{◌≡◌, ℕ, ◌+◌, ◌<◌, ◌≤◌, ◌==◌, true, false, Bool, cond, eqb, List, [], ◌∷◌, ◌++◌, length, get_or, Some, None, sym, refl, ap, ◌∙◌, ⊎_elim, arith}
use Rattle.std.specs.List.{count_by, position, position_or_len, remove}
use Rattle.std.proofs.lemmas.Bool.{cases_Bool, eq-eqb, eqb-true}
use Rattle.std.proofs.lemmas.Bool.Decides.{nat_tests}
use Rattle.std.proofs.lemmas.List.{nil_from_length}
use Rattle.std.proofs.lemmas.List.Quantifiers.{position-Some}
use Rattle.std.proofs.lemmas.List.Sums.{sum_by_push, sum_by-remove}
use Rattle.controller.specs.declared.tokens.Token.{Token}
use Rattle.rehearsal.specs.TokenLists.{TakenOut, out}

-- none is counted where none passes
none_passes : {X : Type 0} (p : X → Bool) (xs : List X) → position p xs ≡ None → count_by p xs ≡ 0
none_passes {X} p xs none = all_fail xs (grind (arith, nat_tests, none))
  where
    all_fail : (xs : List X) → length xs ≤ position_or_len p xs → count_by p xs ≡ 0
    all_fail [] all = refl
    all_fail (x ∷ xs) all =
        ⊎_elim
        (λ (t : p x ≡ true). absurd (grind (arith, t, all)))
        (λ (f : p x ≡ false). simp f (all_fail xs (grind (arith, f, all))))
        (cases_Bool (p x))

module _ {K : Type 0} (ts : List (Token K)) where
  pub none_with : (n : ℕ) → position (λ t. t.number == n) ts ≡ None → out ts n ≡ 0
  unfolding out
  none_with n none = none_passes (λ t. eqb t.number n) ts none

  pub taken_out : (i n : ℕ) (t : Token K) (us : List (Token K)) → position (λ u. u.number == n) ts ≡ Some i
      → t ≡ get_or ts i t → us ≡ remove ts i → TakenOut ts n t us
  unfolding out
  taken_out i n t us found read left =
      let at = position-Some (λ u. eqb u.number n) ts i t found in
      let is : t.number ≡ n = eqb-true t.number n (ap (λ (u : Token K). eqb u.number n) read ∙ at.1) in
      record {
        is = is;
        left = λ k.
            let f : Token K → ℕ = λ u. cond (eqb u.number k) 1 0 in
            let gone = sum_by-remove f ts i t at.0 in
            let rest = ap (count_by (λ (u : Token K). eqb u.number k)) left in
            let one : f t ≡ f (get_or ts i t) = ap f read in
            let same : ◌≡◌ {A = ℕ} (f t) (cond (eqb n k) 1 0) = ap (λ (j : ℕ). cond {A = ℕ} (eqb j k) 1 0) is in
            omega arith;
      }

  pub put_in : (t : Token K) (us : List (Token K)) (n : ℕ) → us ≡ ts ++ t ∷ [] → t.number ≡ n
      → (k : ℕ) → out us k ≡ out ts k + cond (n == k) 1 0
  unfolding out
  put_in t us n pushed is k =
      let f : Token K → ℕ = λ u. cond (eqb u.number k) 1 0 in
      let whole = ap (count_by (λ (u : Token K). eqb u.number k)) pushed in
      let last = sum_by_push f ts t in
      let same : ◌≡◌ {A = ℕ} (f t) (cond (eqb n k) 1 0) = ap (λ (j : ℕ). cond {A = ℕ} (eqb j k) 1 0) is in
      omega arith

  pub last_taken : (t : Token K) (us : List (Token K)) → ts ≡ us ++ t ∷ [] → TakenOut ts t.number t us
  unfolding out
  last_taken t us split = record {
    is = refl;
    left = λ k.
        sym
        (ap (count_by (λ (u : Token K). eqb u.number k)) split
        ∙ sum_by_push (λ (u : Token K). cond (eqb u.number k) 1 0) us t);
  }

  -- a token that was taken out was out
  pub was_out : (n : ℕ) (t : Token K) (us : List (Token K)) → TakenOut ts n t us → 0 < out ts n
  was_out n t us taken =
      let here = eq-eqb n n refl in
      let left = taken.left n in
      grind (arith, here, left)

  -- in an empty list none is out
  pub none_out : length ts ≡ 0 → (n : ℕ) → out ts n ≡ 0
  unfolding out
  none_out none n = ap (count_by (λ (u : Token K). eqb u.number n)) (nil_from_length ts none)
