use Rattle.std.proofs.Common.{sym, ◌∙◌}
use Rattle.book.proofs.Layering.{total_closed}
use Rattle.layers.specs.Closures.{kept_closures}
use Rattle.layers.proofs.closures.layer.ClosureLayerBook.total.Goals as goal

pub returns : goal.returns
returns g c =
    let layer = c.args.self.now in
    c.total.ensures ∙ sym (total_closed (kept_closures layer) (g.B.Book.meaning layer.below))
