use Rattle.std.proofs.Common.{sym, ap, ◌∙◌}
use Rattle.bookings.specs.Steps.{listed}
use Rattle.bookings.proofs.Places.{legs_found, legs_in}
use Rattle.controller.specs.Timings.{timing_of}
use Rattle.controller.proofs.controller.Controller.booking.Goals as goal

pub returns-in_err-route : goal.returns-in_err-route
returns-in_err-route g c =
    let bs = listed c.args.self.now.register in
    let legs = ap legs_in (sym c.in_err-route.was ∙ c.route.ensures) ∙ legs_found c.args.number bs in
    c.from_residual.ensures ∙ ap (timing_of (g.B.Book.meaning c.args.self.now.book)) legs

pub returns : goal.returns
returns g c =
    let bs = listed c.args.self.now.register in
    let legs = ap legs_in (sym c.in_ok-route.was ∙ c.route.ensures) ∙ legs_found c.args.number bs in
    c.timing.ensures ∙ ap (timing_of (g.B.Book.meaning c.args.self.now.book)) legs
