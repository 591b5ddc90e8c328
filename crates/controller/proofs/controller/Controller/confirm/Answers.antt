use Rattle.std.proofs.Common.{refl}
use Rattle.bookings.specs.declared.states.Act.TheVariants.{Confirm}
use Rattle.bookings.proofs.Steps.{moved_step}
use Rattle.controller.proofs.controller.Controller.confirm.Goals as goal

pub returns-in-Some-clause-step : goal.returns-in-Some-clause-step
returns-in-Some-clause-step g c = moved_step _ _ _ _ Confirm c.args.hold.number _ c.in-Some.ensures _ refl refl
