use Rattle.std.proofs.Common.{sym, ap, ◌∙◌, arith}
use Rattle.book.specs.ShownPlan.{shown_of}
use Rattle.leg_book.specs.Records.{count_at}
use Rattle.leg_book.proofs.Stores.{stands}
use Rattle.leg_book.proofs.legs.booked.LegBookBook.standing.Goals as goal

pub overflow_cast-result : goal.overflow_cast-result
overflow_cast-result c =
    let b = c.args.self.now in
    let l = c.args.leg in
    let part = c.in-Some.ensures in
    let small = b.small part.1 l.segment l.entry in
    let same = ap (λ rs. count_at rs l.segment l.entry) part.0 in
    record { fits = omega (arith, c.count_of.ensures, same, small) }

pub returns : goal.returns
returns c =
    let b = c.args.self.now in
    let l = c.args.leg in
    let part = c.in-Some.ensures in
    c.count_of.ensures ∙ ap (λ rs. count_at rs l.segment l.entry) part.0
    ∙ sym (stands (shown_of b.plan) b.records.now part.1 l.segment l.entry (b.legal part.1))
