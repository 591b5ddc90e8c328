use Rattle.std.proofs.Common.{◌&&◌, sym, ◌∙◌, ap₂}
use Rattle.std.proofs.lemmas.Bool.{and_left}
use Rattle.book.specs.Loads.{admissible}
use Rattle.book.proofs.Layering.{admissible_closed}
use Rattle.book.specs.Layered.{closing}
use Rattle.layers.specs.Closures.{kept_closures}
use Rattle.layers.proofs.Closed.{open_told}
use Rattle.layers.proofs.closures.layer.ClosureLayerBook.admissible.Goals as goal

pub returns-then-admissible : goal.returns-then-admissible
returns-then-admissible g c =
    let layer = c.args.self.now in
    let m = g.B.Book.meaning layer.below in
    let l = c.args.leg in
    let open_here = open_told (closing (kept_closures layer) m.shown l.segment) l.entry _ _
    c.barred_until.ensures c.is_none.ensures in
    ap₂ (λ a b. a && b) c.if-admissible.ensures open_here
    ∙ sym (admissible_closed (kept_closures layer) m l)

pub returns-else-admissible : goal.returns-else-admissible
returns-else-admissible g c =
    let layer = c.args.self.now in
    let m = g.B.Book.meaning layer.below in
    let l = c.args.leg in
    c.if-admissible.false
    ∙ sym (admissible_closed (kept_closures layer) m l ∙ and_left (admissible m l) _ (sym c.if-admissible.ensures))
