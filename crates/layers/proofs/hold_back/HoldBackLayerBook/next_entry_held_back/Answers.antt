use Rattle.std.proofs.Common.{sym, subst}
use Rattle.book.specs.Entries.{NextEntry}
use Rattle.book.proofs.Piling.{held_twice}
use Rattle.layers.proofs.hold_back.HoldBackLayerBook.next_entry_held_back.Goals as goal

pub returns : goal.returns
returns g c =
    let layer = c.args.self.now in
    let m = g.B.Book.meaning layer.below in
    let both = c.saturating_add-held.ensures in
    subst (λ x. NextEntry x c.args.segment c.args.from c.next_entry_held_back.result)
    (sym (held_twice layer.held c.args.held _ m (g.met.B.Book.sound layer.below) both))
    c.next_entry_held_back.ensures
