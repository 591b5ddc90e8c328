-- What a plan says: its settings, and its segments and closures in the order of their numbers.
use Rattle.std.specs.Prelude.{◌≡◌, ℕ, ◌≤◌, true, cond, List, [], ◌∷◌, ◌++◌, length, is_some, is_ok, Some, None, Ok, Err, vec_items, Option, Result, nat_lt}
use Rattle.std.specs.List.{slice_get}
use Rattle.std.specs.Option.{option_map}
use Rattle.plan.specs.declared.parts.Closure.{Closure}
use Rattle.plan.specs.declared.parts.Segment.{Segment}
use Rattle.plan.specs.declared.parts.Settings.{Settings}
use Rattle.plan.specs.declared.refusals.Fault.{Fault}
use Rattle.plan.specs.declared.refusals.PlanError.{PlanError}
use Rattle.plan.specs.declared.refusals.PlanError.TheVariants as error
use Rattle.plan.specs.declared.refusals.Refusal.{Refusal}
use Rattle.plan.specs.declared.refusals.Refusal.TheVariants as refusal
use Rattle.plan.specs.declared.road_plan.Plan.{Plan}
use Rattle.plan.specs.Critical.{critical}
use Rattle.plan.specs.Limits.{most_closures, most_segments}
use Rattle.plan.specs.Ranges.{closure_rules, closures_fit, segment_rules, segments_fit, settings_fit, settings_rules}
use Rattle.plan.specs.Refusals.{outside}
use Rattle.plan.specs.Rules.{Rule, first_broken, rule}
use Rattle.plan.specs.Travel.{travel}

pub record Content : Type 0 where
  pub settings : Settings
  pub segments : List Segment
  pub closures : List Closure

abbrev pub content : Plan → Content
content p = record { settings = p.settings; segments = vec_items p.segments; closures = vec_items p.closures }

-- a plan just begun
abbrev pub bare : Settings → Content
bare s = record { settings = s; segments = []; closures = [] }

abbrev pub with_segment : Content → Segment → Content
with_segment c g = record { settings = c.settings; segments = c.segments ++ g ∷ []; closures = c.closures }

abbrev pub with_closure : Content → Closure → Content
with_closure c k = record { settings = c.settings; segments = c.segments; closures = c.closures ++ k ∷ [] }

-- every range of a plan
pub record Fits (c : Content) : Type 0 where
  pub settings_in_range : settings_fit c.settings ≡ true
  pub segments_in_range : segments_fit c.settings c.segments ≡ true
  pub closures_in_range : closures_fit c.settings (length c.segments) c.closures ≡ true
  pub few_segments : length c.segments ≤ most_segments
  pub few_closures : length c.closures ≤ most_closures

-- what is checked of an addition, in order
abbrev pub segment_addition : Content → Segment → List (Rule Refusal)
segment_addition c g = rule (nat_lt (length c.segments) most_segments) refusal.PlanFull ∷ segment_rules c.settings g

abbrev pub closure_addition : Content → Closure → List (Rule Refusal)
closure_addition c k =
    rule (nat_lt (length c.closures) most_closures) refusal.PlanFull
    ∷ closure_rules c.settings (length c.segments) k

-- the number that the new part has, or the refusal
abbrev pub numbered : Option Refusal → ℕ → Result ℕ Fault
numbered None n = Ok n
numbered (Some r) n = Err (outside r)

pub record SegmentAdded (c : Content) (g : Segment) (r : Result ℕ Fault) (after : Content) : Type 0 where
  pub answer : r ≡ numbered (first_broken (segment_addition c g)) (length c.segments)
  pub grown : after ≡ cond (is_ok r) (with_segment c g) c

pub record ClosureAdded (c : Content) (k : Closure) (r : Result ℕ Fault) (after : Content) : Type 0 where
  pub answer : r ≡ numbered (first_broken (closure_addition c k)) (length c.closures)
  pub grown : after ≡ cond (is_ok r) (with_closure c k) c

-- a segment's travel slots and critical count by its number
abbrev pub travel_at : Content → ℕ → Option ℕ
travel_at c number = option_map (travel c.settings) (slice_get c.segments number)

abbrev pub critical_at : Content → ℕ → Option ℕ
critical_at c number = option_map (critical c.settings) (slice_get c.segments number)

-- what beginning a plan answers; want of memory is met only with settings in range
abbrev pub Begins : Settings → Result Plan PlanError → Type 0
Begins s (Ok p) = (first_broken (settings_rules s) ≡ None) × (content p ≡ bare s)
Begins s (Err (error.Refused f)) =
    (is_some (first_broken (settings_rules s)) ≡ true) × (f ≡ outside refusal.SettingOutOfRange)
Begins s (Err error.NoMemory) = first_broken (settings_rules s) ≡ None
