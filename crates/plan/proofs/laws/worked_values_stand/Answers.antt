use Rattle.std.proofs.Common.{refl}
use Rattle.plan.specs.Critical.{critical}
use Rattle.plan.specs.Travel.{travel}
use Rattle.plan.proofs.laws.worked_values_stand.Goals as goal

pub returns : goal.returns
unfolding travel critical
returns c =
    record {
      a_half_goes_up = refl;
      below_a_half_goes_down = refl;
      never_below_one = refl;
      a_part_counts_for_none = refl;
      a_whole_counts = refl;
    }
