use Rattle.std.proofs.Common.{◌≡◌, length, sym, ap, ◌∙◌, subst}
use Rattle.search.specs.Routes.{legs_of}
use Rattle.bookings.specs.Owed.{more}
use Rattle.bookings.specs.Registers.{ListedToo}
use Rattle.bookings.specs.Reserving.{Reservable}
use Rattle.bookings.proofs.Granting.{granted_reservable}
use Rattle.bookings.proofs.Steps.{granted_step}
use Rattle.controller.proofs.controller.Controller.request.Goals as goal

pub returns-clause-step : goal.returns-clause-step
returns-clause-step g c =
    let m = g.B.Book.meaning c.args.self.now.book in
    let register = c.args.self.now.register in
    let room = length c.args.scratch.now in
    let route = c.in_ok-route.route in
    let grants = c.in_ok-route.ensures.decision in
    let sound = g.met.B.Book.sound c.args.self.now.book in
    let reservable = granted_reservable m sound c.args.request (legs_of route) grants.granted grants.fits in
    let legs = c.legs.ensures in
    let after = g.B.Book.meaning c.reserve_all.new.book in
    let entered = c.enter.new.self in
    let reserved : after ≡ more m (legs_of route) =
    c.reserve_all.ensures (subst (Reservable m) (sym legs) reservable) ∙ ap (more m) legs in (
      route,
      granted_step m after register entered c.args.request room c.new.result.number route grants
          (subst (λ n. ListedToo register route n entered) (sym c.new.ensures) c.in_ok-number.ensures)
          reserved,
    )
