use Rattle.std.proofs.Common.{sym, refl, ap, ◌∙◌}
use Rattle.bookings.specs.States.{leads_to}
use Rattle.bookings.proofs.Steps.{moved_step}
use Rattle.controller.proofs.controller.Controller.park.Goals as goal

pub returns-in-Some-clause-step : goal.returns-in-Some-clause-step
returns-in-Some-clause-step g c =
    let leads = ap leads_to c.PARK.ensures ∙ g.K.Kind.acts.parks in
    rw (sym c.PARK.ensures) (moved_step _ _ _ _ _ c.args.token.number _ c.in-Some.ensures _ leads refl)
