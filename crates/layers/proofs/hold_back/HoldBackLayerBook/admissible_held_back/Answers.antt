use Rattle.std.proofs.Common.{sym, ap, ◌∙◌}
use Rattle.book.specs.Loads.{admissible}
use Rattle.book.proofs.Piling.{held_twice}
use Rattle.layers.proofs.hold_back.HoldBackLayerBook.admissible_held_back.Goals as goal

pub returns : goal.returns
returns g c =
    let layer = c.args.self.now in
    let m = g.B.Book.meaning layer.below in
    let both = c.saturating_add-held.ensures in
    c.admissible_held_back.ensures
    ∙ ap (λ x. admissible x c.args.leg)
    (sym (held_twice layer.held c.args.held _ m (g.met.B.Book.sound layer.below) both))
