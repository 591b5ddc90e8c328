use Rattle.std.proofs.Common.{sym, ap, ◌∙◌}
use Rattle.bookings.specs.Owed.{more}
use Rattle.bookings.specs.States.{leads_to}
use Rattle.bookings.proofs.Steps.{ended_step}
use Rattle.controller.proofs.controller.Controller.end.Goals as goal

pub returns-in-Some-clause-step : goal.returns-in-Some-clause-step
returns-in-Some-clause-step g c =
    let leads = ap leads_to c.END.ensures ∙ g.K.Kind.acts.ends in
    rw (sym c.END.ensures)
    (ended_step _ _ _ _ _ c.args.token.number c.in-Some.route c.in-Some.ensures leads
    (λ rest stands. c.free_all.ensures rest (stands ∙ ap (more rest) (sym c.legs.ensures))))
