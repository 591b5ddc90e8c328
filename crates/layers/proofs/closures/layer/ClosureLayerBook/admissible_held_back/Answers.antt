use Rattle.std.proofs.Common.{◌&&◌, sym, ◌∙◌, ap₂}
use Rattle.std.proofs.lemmas.Bool.{and_left}
use Rattle.book.specs.Layered.{closing, held_back}
use Rattle.book.specs.Loads.{admissible}
use Rattle.book.proofs.Piling.{admissible_held_closed}
use Rattle.layers.specs.Closures.{kept_closures}
use Rattle.layers.proofs.Closed.{open_told}
use Rattle.layers.proofs.closures.layer.ClosureLayerBook.admissible_held_back.Goals as goal

pub returns-then-admissible_held_back : goal.returns-then-admissible_held_back
returns-then-admissible_held_back g c =
    let layer = c.args.self.now in
    let m = g.B.Book.meaning layer.below in
    let l = c.args.leg in
    let open_here = open_told (closing (kept_closures layer) m.shown l.segment) l.entry _ _
    c.barred_until.ensures c.is_none.ensures in
    ap₂ (λ a b. a && b) c.if-admissible_held_back.ensures open_here ∙ sym (admissible_held_closed c.args.held (kept_closures layer) m l)

pub returns-else-admissible_held_back : goal.returns-else-admissible_held_back
returns-else-admissible_held_back g c =
    let layer = c.args.self.now in
    let m = g.B.Book.meaning layer.below in
    let l = c.args.leg in
    c.if-admissible_held_back.false
    ∙ sym (admissible_held_closed c.args.held (kept_closures layer) m l ∙ and_left (admissible (held_back c.args.held m) l) _ (sym c.if-admissible_held_back.ensures))
