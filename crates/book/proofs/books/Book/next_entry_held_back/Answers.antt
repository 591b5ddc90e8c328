use Rattle.std.proofs.Common.{◌≡◌, true, false, ap, rules, arith}
use Rattle.std.proofs.lemmas.Iterator.{first_from_Range}
use Rattle.book.specs.Layered.{held_back}
use Rattle.book.specs.Loads.{admissible}
use Rattle.book.proofs.Entering.{next_found}
use Rattle.book.proofs.Layering.{held_sound}
use Rattle.book.proofs.books.Book.next_entry_held_back.Goals as goal

pub returns : goal.returns
returns g c =
    let b = c.args.self.now in
    let m = held_back c.args.held (g.Self.Book.meaning b) in
    let end = ap (λ s. s.horizon) c.sizes.ensures in
    next_found m c.args.segment c.args.from c.sizes.result.horizon c.find.result
    (held_sound c.args.held (g.Self.Book.meaning b) (g.met.Self.Book.sound b)) (omega (arith, end))
    (first_from_Range _ _ _ c.find.result
    (λ k. admissible m (record { segment = c.args.segment; entry = k }) ≡ true)
    (λ k. admissible m (record { segment = c.args.segment; entry = k }) ≡ false)
    c.find.ensures.ran
    (λ x q k. search rules)
    (λ x q k. search rules))
