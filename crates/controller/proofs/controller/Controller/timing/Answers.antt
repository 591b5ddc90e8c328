use Rattle.std.proofs.Common.{ap, ◌∙◌}
use Rattle.controller.specs.Timings.{timing_of}
use Rattle.controller.proofs.LastLegs.{timing_by_ends}
use Rattle.controller.proofs.controller.Controller.timing.Goals as goal

pub returns : goal.returns
returns g c =
    let m = g.B.Book.meaning c.args.self.now.book in
    let first = c.in_ok-first.ensures.item in
    let last = c.in_ok-last.ensures.item in
    rw c.end_of.ensures (timing_by_ends m c.legs-legs.result.now _ _ first.3.0 first.1 last.1) ∙ ap (timing_of m) c.legs-legs.ensures
