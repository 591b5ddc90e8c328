-- Worked values of travel slots and critical counts.
use Rattle.std.specs.Prelude.{◌≡◌, ℕ}
use Rattle.plan.specs.declared.parts.Segment.{Segment}
use Rattle.plan.specs.declared.parts.Settings.{Settings}
use Rattle.plan.specs.Critical.{critical}
use Rattle.plan.specs.Travel.{travel}

-- slots of 1000 ms, 30 carriers per kilometre and lane
abbrev pub example_settings : Settings
example_settings = record { slot_length = 1000; density = 30; horizon = 20; junctions = 4 }

-- a single lane at 1000 cm/s, which is class 7
abbrev pub example_segment : ℕ → Segment
example_segment length = record { start = 0; end = 1; length = length; lanes = 1; class = 7 }

pub record WorkedValues : Type 0 where
  pub a_half_goes_up : travel example_settings (example_segment 45) ≡ 5
  pub below_a_half_goes_down : travel example_settings (example_segment 44) ≡ 4
  pub never_below_one : travel example_settings (example_segment 4) ≡ 1
  pub a_part_counts_for_none : critical example_settings (example_segment 33) ≡ 0
  pub a_whole_counts : critical example_settings (example_segment 34) ≡ 1
