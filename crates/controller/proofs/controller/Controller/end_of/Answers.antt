use Rattle.std.proofs.Common.{sym, ap, ◌∙◌, arith}
use Rattle.std.proofs.lemmas.List.{get_or_past}
use Rattle.book.specs.Meaning.{Road, no_road}
use Rattle.book.proofs.Segments.{segment_none}
use Rattle.controller.proofs.controller.Controller.end_of.Goals as goal

pub returns-in-None : goal.returns-in-None
returns-in-None g c =
    let m = g.B.Book.meaning c.args.self.now.book in
    let past = segment_none m c.args.leg.segment (sym c.in-None.is ∙ c.segment.ensures) in
    let none = ap (λ (r : Road). r.slots) (get_or_past m.shown.roads c.args.leg.segment no_road past) in
    omega (arith, none)
