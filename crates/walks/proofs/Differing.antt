-- Lists of different numbers.
use Rattle.std.proofs.Common.{◌≡◌, ℕ, ◌<◌, ◌≤◌, Bool, false, ◌||◌, eqb, ◌≢◌, List, [], ◌∷◌, ◌++◌, map, length, sym, refl, ap, arith}
use Rattle.std.specs.List.{AllByRecursion}
use Rattle.std.proofs.ByRecursion.{All-push}
use Rattle.std.proofs.lemmas.Bool.{eq-eqb, ne_eqb, or_from, or_left, or_right}
use Rattle.walks.specs.Count.{count}
use Rattle.walks.specs.Walks.{Different}
use Rattle.walks.proofs.Counting.{count_less, count_within}

-- one more at the end, which none before is
pub different_push : (ns : List ℕ) (n : ℕ) → Different ns → AllByRecursion (λ k. k ≢ n) ns → Different (ns ++ n ∷ [])
different_push [] n different apart = (tt, tt)
different_push (x ∷ ns) n different apart = (
  All-push (λ k. k ≢ x) ns n different.0 (λ same. apart.0 (sym same)),
  different_push ns n different.1 apart.1,
)

-- numbers with different images are different
pub different_from_map : (f : ℕ → ℕ) (ns : List ℕ) → Different (map f ns) → Different ns
different_from_map f [] different = tt
different_from_map f (n ∷ ns) different = (apart ns different.0, different_from_map f ns different.1)
  where
    apart : (ks : List ℕ) → AllByRecursion (λ k. k ≢ f n) (map f ks) → AllByRecursion (λ k. k ≢ n) ks
    apart [] images = tt
    apart (k ∷ ks) images = (λ same. images.0 (ap f same), apart ks images.1)

-- ---- as many as there are numbers below a bound

listed : List ℕ → ℕ → Bool
listed [] k = false
listed (n ∷ ns) k = eqb k n || listed ns k

not_listed : (ns : List ℕ) (n : ℕ) → AllByRecursion (λ k. k ≢ n) ns → listed ns n ≡ false
unfolding listed
not_listed [] n apart = refl
not_listed (k ∷ ns) n apart =
    or_from (eqb n k) (listed ns n) (ne_eqb n k (λ same. apart.0 (sym same))) (not_listed ns n apart.1)

as_many : (bound : ℕ) (ns : List ℕ) → Different ns → AllByRecursion (λ k. k < bound) ns → length ns ≤ count bound (listed ns)
unfolding listed
as_many bound [] different below = omega arith
as_many bound (n ∷ ns) different below =
    omega (
      arith,
      as_many bound ns different.1 below.1,
      count_less bound n (listed ns) (listed (n ∷ ns)) (λ k within there. or_right (eqb k n) (listed ns k) there)
          below.0 (not_listed ns n different.0) (or_left (eqb n n) (listed ns n) (eq-eqb n n refl)),
    )

-- at most n numbers below n are different
pub different_short : (bound : ℕ) (ns : List ℕ) → Different ns → AllByRecursion (λ k. k < bound) ns → length ns ≤ bound
different_short bound ns different below =
    omega (arith, as_many bound ns different below, count_within bound (listed ns))
