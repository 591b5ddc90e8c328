use Rattle.std.proofs.Common.{sym, ap, ◌∙◌}
use Rattle.std.specs.List.{slice_get}
use Rattle.plan.proofs.Asking.{item_nth}
use Rattle.bookings.specs.Steps.{listed}
use Rattle.bookings.proofs.Places.{legs_found, legs_in}
use Rattle.controller.proofs.controller.Controller.leg.Goals as goal

pub returns-in_err-route : goal.returns-in_err-route
returns-in_err-route g c =
    let bs = listed c.args.self.now.register in
    let legs = ap legs_in (sym c.in_err-route.was ∙ c.route.ensures) ∙ legs_found c.args.number bs in
    c.from_residual.ensures ∙ ap (λ ls. slice_get ls c.args.place) legs

pub returns : goal.returns
returns g c =
    let bs = listed c.args.self.now.register in
    let legs = ap legs_in (sym c.in_ok-route.was ∙ c.route.ensures) ∙ legs_found c.args.number bs in
    let found = item_nth _ _ c.get.result c.get.ensures.lookup in
    c.copied.ensures ∙ found ∙ ap (λ ls. slice_get ls c.args.place) (c.legs.ensures ∙ legs)
