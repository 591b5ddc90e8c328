-- How many carriers a segment may carry at once.
use Rattle.std.specs.Prelude.{ℕ, ◌*◌, ◌/◌, ◌≤◌, min}
use Rattle.plan.specs.declared.parts.Segment.{Segment}
use Rattle.plan.specs.declared.parts.Settings.{Settings}
use Rattle.plan.specs.Limits.{most_count}

-- length in metres × lanes × density in carriers per kilometre and lane
abbrev pub thousandths : Settings → Segment → ℕ
thousandths s g = g.length * g.lanes * s.density

unfoldable pub critical : Settings → Segment → ℕ
critical s g = min most_count (thousandths s g / 1000)

-- so many carriers are no denser than the critical density: count / (length / 1000 × lanes) ≤ density
abbrev pub NotTooDense : Settings → Segment → ℕ → Type 0
NotTooDense s g count = count * 1000 ≤ thousandths s g

-- the critical count is the largest of the counts up to 255 that are not too dense
abbrev pub CriticalIsLargest : Type 0
CriticalIsLargest =
    (s : Settings) (g : Segment)
    → (critical s g ≤ most_count) × NotTooDense s g (critical s g)
    × ((count : ℕ) → count ≤ most_count → NotTooDense s g count → count ≤ critical s g)
