use Rattle.std.proofs.Common.{subst}
use Rattle.book.specs.Entries.{NextEntry}
use Rattle.book.proofs.Piling.{held_none}
use Rattle.search.proofs.entries.next_entry.Goals as goal

pub returns : goal.returns
returns g c =
    subst (λ m. NextEntry m c.args.segment c.args.from c.next_entry_held_back.result)
    (held_none (g.B.Book.meaning c.args.book.now)) c.next_entry_held_back.ensures
