-- The first number of a range at which a closure that changes nothing answers something.
use Rattle.std.proofs.Common.{◌≡◌, ℕ, ◌+◌, ◌<◌, Some, None, Option, IfSome, MatchOption, sym, ap, subst, arith}
use Rattle.std.proofs.lemmas.Bool.{true≢false}
use Rattle.std.specs.Bool.{IsTrue}
use Rattle.std.specs.Fn.{Called, Mut}
use Rattle.std.specs.Option.{IsSomeAnd, is_some, option_map}
use Rattle.std.specs.Iterator.Runs.{AllItemsGive, CallKeepsClosure, IsFirstToGive, ItemsCountUp, Run}

module _ {S F R : Type 0} {steps : S → Option ℕ → S → Type 0} (p : Run steps) (a b n : ℕ) (up : ItemsCountUp p a b)
    (from : a ≡ 0) (to : b ≡ n)
    (g : Mut F (ℕ × Unit {0}) (Option R)) (f : F) (P : ℕ → Option R → Type 0)
    (means : (k : ℕ) (r : Option R) (f' : F) → Called g f (k, tt) r f' → P k r × (f' ≡ f)) where
  keeps : CallKeepsClosure g f
  keeps x r f' call = (means x.0 r f' call).1

  at_item : (r : Option R) (o : Option ℕ) (k : ℕ) → IfSome o (λ x. (x ≡ a + k) × (x < b))
      → IsSomeAnd o (λ x. Called g f (x, tt) r f) → P k r
  at_item r None k is called = absurd called
  at_item r (Some x) k is called = subst (λ j. P j r) (omega (arith, is.0, from)) (means x r f called).0

  some_item : (r : Option R) (o : Option ℕ) (k : ℕ) → option_map (λ y. y) o ≡ Some (a + k)
      → IfSome o (λ x. Called g f (x, tt) r f) → IsSomeAnd o (λ x. Called g f (x, tt) r f)
  some_item r None k is called = absurd (true≢false (sym (ap is_some is)))
  some_item r (Some x) k is called = called

  pub first_found : (r : Option R)
      → MatchOption r (IsTrue p.whole × AllItemsGive p g f None)
      (λ y. (i : ℕ) × (i < p.len) × (p.len ≡ i + 1) × IsFirstToGive p g f (Some y) None i)
      → MatchOption r ((k : ℕ) → k < n → P k None) (λ y. (i : ℕ) × P i (Some y) × ((k : ℕ) → k < i → P k None))
  first_found None none =
      λ k below. at_item None (p.at k) k (up.2 k)
      (some_item None (p.at k) k (up.3 k (omega (arith, up.1 none.0, from, to))) (none.1 keeps k))
  first_found (Some y) first =
      let calls = first.3 keeps in (
        first.0,
        at_item (Some y) (p.at first.0) first.0 (up.2 first.0) calls.0,
        λ k below. at_item None (p.at k) k (up.2 k) (calls.1 k below),
      )
