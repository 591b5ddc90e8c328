use Rattle.std.proofs.Common.{◌≡◌, true, not, is_ok, sym, ap, ◌∙◌}
use Rattle.std.proofs.lemmas.Bool.{and_parts}
use Rattle.book.specs.Layered.{closed, closing}
use Rattle.book.specs.Loads.{admissible}
use Rattle.book.specs.Meaning.{plus}
use Rattle.book.proofs.Layering.{admissible_closed, total_closed}
use Rattle.book.proofs.Reserving.{cond_under, reserved_over}
use Rattle.layers.specs.Closures.{kept_closures}
use Rattle.layers.proofs.closures.layer.ClosureLayerBook.reserve.Goals as goal

pub returns-clause-does : goal.returns-clause-does
returns-clause-does g c =
    let layer = c.args.self.now in
    let ks = kept_closures layer in
    let m = g.B.Book.meaning layer.below in
    let after = g.B.Book.meaning c.reserve.new.self in
    let l = c.args.leg in
    let r = c.reserve.result in
    let admitted : admissible (closed ks m) l ≡ true = sym c.if-not-admissible.ensures in
    let below : admissible m l ≡ true =
    (and_parts (admissible m l) (not (closing ks m.shown l.segment l.entry))
    (sym (admissible_closed ks m l) ∙ admitted)).0 in
    let change = ap (closed ks) c.reserve.ensures.does.change ∙ cond_under (closed ks) (is_ok r) (plus m l) m in
    reserved_over m after (closed ks m) (closed ks after) l r c.reserve.ensures.does admitted below
    (total_closed ks m) change
