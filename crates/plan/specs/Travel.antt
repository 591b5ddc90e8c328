-- How many slots a carrier takes for a segment.
use Rattle.std.specs.Prelude.{◌≡◌, ℕ, ◌+◌, ◌*◌, ◌/◌, ◌<◌, ◌≤◌, max, List, [], ◌∷◌, slice_index}
use Rattle.plan.specs.declared.parts.Segment.{Segment}
use Rattle.plan.specs.declared.parts.Settings.{Settings}

-- the speeds of the classes 0 to 15, in centimetres a second
abbrev pub class_speeds : List ℕ
class_speeds =
    125 ∷ 250 ∷ 375 ∷ 500 ∷ 625 ∷ 750 ∷ 875 ∷ 1000 ∷
    1125 ∷ 1250 ∷ 1375 ∷ 1500 ∷ 1625 ∷ 1750 ∷ 1875 ∷ 2000 ∷ []

abbrev pub speed : ℕ → ℕ
speed class = slice_index class_speeds class

-- the whole number nearest to a / b, a half upwards
abbrev pub nearest : ℕ → ℕ → ℕ
nearest a b = (2 * a + b) / (2 * b)

-- length in metres × 100,000 by speed in centimetres a second × slot length in milliseconds, never below 1
unfoldable pub travel : Settings → Segment → ℕ
travel s g = max 1 (nearest (g.length * 100000) (speed g.class * s.slot_length))

-- n is the whole number nearest to a / b, a half upwards: n - 1/2 ≤ a / b < n + 1/2
pub record Nearest (a b n : ℕ) : Type 0 where
  pub not_above : b * (2 * n) ≤ 2 * a + b
  pub not_below : 2 * a < b * (2 * n + 1)

-- travel slots are the nearest whole number to the time that the way takes, or 1 where that is 0
abbrev pub TravelIsNearest : Type 0
TravelIsNearest =
    (s : Settings) (g : Segment) → 0 < speed g.class * s.slot_length
    → (n : ℕ) × Nearest (g.length * 100000) (speed g.class * s.slot_length) n × (travel s g ≡ max 1 n)
