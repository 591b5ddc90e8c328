use Rattle.std.proofs.Common.{◌+◌, ◌<◌, ◌≤◌, sym, ap, ◌∙◌, refl, rules, arith}
use Rattle.std.proofs.lemmas.Iterator.{YieldsList-from_range, cases_from_all}
use Rattle.book.specs.Loads.{load}
use Rattle.book.specs.Rooms.{room_below}
use Rattle.book.specs.declared.legs.Leg.{Leg}
use Rattle.book.proofs.Rooming.{room_passed}
use Rattle.layer_cases.specs.RowBook.{row_of}
use Rattle.layer_cases.proofs.row.RowBook.has_room.Goals as goal

pub returns : goal.returns
returns c =
    let b = c.args.self.now in
    let m = row_of b in
    let l = c.args.leg in
    let first : Leg = record { segment = 0; entry = l.entry } in
    room_passed m first b.limit b.slots c.all.result
    (cases_from_all _ _ c.all.result (λ t. load m 0 t < b.limit) (λ t. b.limit ≤ load m 0 t) c.all.ensures.ran
    (YieldsList-from_range l.entry (l.entry + b.slots) b.slots refl (omega arith))
    (λ x q k. search rules) (λ x q k. search rules))
    ∙ ap (λ i. room_below m (record { segment = i; entry = l.entry }) b.limit b.slots) (sym c.requires.0)
