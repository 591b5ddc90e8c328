-- The laws of travel slots and critical counts.
use Rattle.std.proofs.Common.{◌≡◌, ℕ, ◌+◌, ◌*◌, ◌<◌, ◌≤◌, sym, refl, ◌∙◌, mul_assoc, mul-one, mul-add, mul_left_comm, arith}
use native.Mathlib.Nat.{lt-mul-div-succ, mul-div-le}
use Rattle.plan.specs.Critical.{CriticalIsLargest, critical}
use Rattle.plan.specs.Travel.{Nearest, TravelIsNearest, nearest, travel}

pub nearest_is_nearest : (a b : ℕ) → 0 < b → Nearest a b (nearest a b)
nearest_is_nearest a b positive =
    let n = nearest a b in
    let twice : 0 < 2 * b = omega arith in
    let low : (2 * b) * n ≤ 2 * a + b = mul-div-le (2 * a + b) (2 * b) in
    let high : 2 * a + b < (2 * b) * (n + 1) = lt-mul-div-succ (2 * a + b) twice in
    let even : b * (2 * n) ≡ (2 * b) * n = mul_left_comm b 2 n ∙ sym (mul_assoc 2 b n) in
    record {
      not_above = omega (arith, even, low);
      not_below = omega (arith, even, high, mul-add (2 * b) n 1, mul-add b (2 * n) 1, mul-one (2 * b), mul-one b);
    }

pub travel_is_nearest : TravelIsNearest
unfolding travel
travel_is_nearest s g positive = (nearest _ _, nearest_is_nearest _ _ positive, refl)

pub critical_is_largest : CriticalIsLargest
unfolding critical
critical_is_largest s g = (omega arith, omega arith, λ count few fits. omega arith)
