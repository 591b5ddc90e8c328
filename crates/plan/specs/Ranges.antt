-- The ranges of a plan's parts, as rules in checking order.
use Rattle.std.specs.Prelude.{ℕ, Bool, not, ◌&&◌, List, [], ◌∷◌, ◌==◌, nat_le, nat_lt}
use Rattle.plan.specs.declared.parts.Closure.{Closure}
use Rattle.plan.specs.declared.parts.Segment.{Segment}
use Rattle.plan.specs.declared.parts.Setting.{Setting}
use Rattle.plan.specs.declared.parts.Setting.TheVariants as setting
use Rattle.plan.specs.declared.parts.Settings.{Settings}
use Rattle.plan.specs.declared.refusals.Refusal.{Refusal}
use Rattle.plan.specs.declared.refusals.Refusal.TheVariants as refusal
use Rattle.plan.specs.Limits.{most_class, most_junctions, most_slots, most_travel}
use Rattle.plan.specs.Rules.{Rule, every, keeps, rule}
use Rattle.plan.specs.Travel.{travel}

abbrev pub within : ℕ → ℕ → ℕ → Bool
within low high n = nat_le low n && nat_le n high

unfoldable pub settings_rules : Settings → List (Rule Setting)
settings_rules s =
    rule (within 1 65535 s.slot_length) setting.SlotLength
    ∷ rule (within 0 65535 s.density) setting.Density
    ∷ rule (within 1 most_slots s.horizon) setting.Horizon
    ∷ rule (within 2 most_junctions s.junctions) setting.Junctions
    ∷ []

-- start and end are two known junctions
abbrev pub joined : Settings → Segment → Bool
joined s g = nat_lt g.start s.junctions && (nat_lt g.end s.junctions && not (g.start == g.end))

abbrev pub measured : Segment → Bool
measured g = within 1 65535 g.length && (within 1 255 g.lanes && nat_le g.class most_class)

unfoldable pub segment_rules : Settings → Segment → List (Rule Refusal)
segment_rules s g =
    rule (joined s g && measured g) refusal.SegmentOutOfRange
    ∷ rule (nat_le (travel s g) most_travel) refusal.TravelTooLong
    ∷ []

-- of a plan with so many segments
unfoldable pub closure_rules : Settings → ℕ → Closure → List (Rule Refusal)
closure_rules s segments c =
    rule (nat_lt c.segment segments && (nat_lt c.first c.end && nat_le c.end s.horizon)) refusal.ClosureOutOfRange
    ∷ []

unfoldable pub settings_fit : Settings → Bool
settings_fit s = keeps (settings_rules s)

unfoldable pub segments_fit : Settings → List Segment → Bool
segments_fit s gs = every (λ g. keeps (segment_rules s g)) gs

unfoldable pub closures_fit : Settings → ℕ → List Closure → Bool
closures_fit s segments cs = every (λ c. keeps (closure_rules s segments c)) cs
