-- Whether a closure covers a slot that a leg holds, by the ends of both.
use Rattle.std.proofs.Common.{◌≡◌, ℕ, zero, suc, ◌+◌, ◌<◌, ◌≤◌, min, max, true, ◌&&◌, eqb, ltb, List, [], ◌∷◌, length, get_or, sym, ◌∙◌, arith}
use Rattle.std.proofs.lemmas.Bool.{lt-ltb, ltb-true, or_right}
use Rattle.std.proofs.lemmas.Bool.Decides.{nat_tests}
use Rattle.plan.specs.declared.parts.Closure.{Closure}
use Rattle.book.specs.Layered.{any_below, closed_by, covers}

pub covers_some : (k : Closure) (e u : ℕ)
    → any_below u (λ j. covers k (e + j)) ≡ ltb (max k.first e) (min (e + u) k.end)
covers_some k e zero = grind (arith, nat_tests)
covers_some k e (suc u) = let before = covers_some k e u in grind (arith, nat_tests, before)

-- a closure that bars an entry bars the entries from there up to its end
pub covers_through : (k : Closure) (e u x : ℕ) → any_below u (λ j. covers k (e + j)) ≡ true → e ≤ x → x < k.end
    → any_below u (λ j. covers k (x + j)) ≡ true
covers_through k e u x barred later before =
    let overlap = ltb-true (max k.first e) (min (e + u) k.end) (sym (covers_some k e u) ∙ barred) in
    covers_some k x u ∙ lt-ltb (max k.first x) (min (x + u) k.end) (omega arith)

pub covers_before_end : (k : Closure) (e u : ℕ) → any_below u (λ j. covers k (e + j)) ≡ true → e < k.end
covers_before_end k e u barred =
    let overlap = ltb-true (max k.first e) (min (e + u) k.end) (sym (covers_some k e u) ∙ barred) in
    omega arith

-- what one closure bars is barred
pub closed_by_one : (ks : List Closure) (n : ℕ) (d : Closure) (i u e : ℕ) → n < length ks
    → (eqb (get_or ks n d).segment i && any_below u (λ j. covers (get_or ks n d) (e + j))) ≡ true → closed_by ks i u e ≡ true
closed_by_one [] n d i u e within barred = absurd (omega arith)
closed_by_one (k ∷ ks) zero d i u e within barred = grind (arith, barred)
closed_by_one (k ∷ ks) (suc n) d i u e within barred =
    let behind = closed_by_one ks n d i u e (omega arith) barred in
    or_right (eqb k.segment i && any_below u (λ j. covers k (e + j))) (closed_by ks i u e) behind
