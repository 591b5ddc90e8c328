use Rattle.std.proofs.Common.{sym, ◌∙◌}
use Rattle.book.proofs.Layering.{total_held}
use Rattle.layers.proofs.hold_back.HoldBackLayerBook.total.Goals as goal

pub returns : goal.returns
returns g c =
    let m = g.B.Book.meaning c.args.self.now.below in
    c.total.ensures ∙ sym (total_held c.args.self.now.held m)
