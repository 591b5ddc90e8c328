use Rattle.std.proofs.Common.{◌≡◌, true, is_ok, sym, ap, ◌∙◌}
use Rattle.std.proofs.lemmas.Bool.{and_parts}
use Rattle.book.specs.Layered.{held_back}
use Rattle.book.specs.Loads.{admissible, has_room}
use Rattle.book.specs.Meaning.{plus}
use Rattle.book.proofs.Layering.{total_held}
use Rattle.book.proofs.Reserving.{cond_under, reserved_over}
use Rattle.book.proofs.Rooming.{admissible_held}
use Rattle.layers.proofs.hold_back.HoldBackLayerBook.reserve.Goals as goal

pub returns-clause-does : goal.returns-clause-does
returns-clause-does g c =
    let layer = c.args.self.now in
    let m = g.B.Book.meaning layer.below in
    let after = g.B.Book.meaning c.reserve.new.self in
    let l = c.args.leg in
    let r = c.reserve.result in
    let admitted : admissible (held_back layer.held m) l ≡ true = sym c.if-not-admissible.ensures in
    let below : admissible m l ≡ true =
    (and_parts (admissible m l) (has_room (held_back layer.held m) l)
    (sym (admissible_held layer.held m l) ∙ admitted)).0 in
    let change = ap (held_back layer.held) c.reserve.ensures.does.change
    ∙ cond_under (held_back layer.held) (is_ok r) (plus m l) m in
    reserved_over m after (held_back layer.held m) (held_back layer.held after) l r c.reserve.ensures.does
    admitted below (total_held layer.held m) change
