use Rattle.std.proofs.Common.{sym, refl, ap, ◌∙◌}
use Rattle.bookings.specs.States.{leads_to}
use Rattle.bookings.proofs.Steps.{moved_step}
use Rattle.controller.proofs.controller.Controller.take_up.Goals as goal

pub returns-in-Some-clause-step : goal.returns-in-Some-clause-step
returns-in-Some-clause-step g c =
    let leads = ap leads_to c.TAKE_UP.ensures ∙ g.K.Kind.acts.takes_up in
    rw (sym c.TAKE_UP.ensures) (moved_step _ _ _ _ _ c.args.number _ c.in-Some.ensures _ leads refl)
