use Rattle.plan.proofs.Formulas.{critical_is_largest, travel_is_nearest}
use Rattle.plan.proofs.laws.formulas_stand.Goals as goal

pub returns : goal.returns
returns c = record { travel = travel_is_nearest; critical = critical_is_largest }
