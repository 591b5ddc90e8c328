use Rattle.std.proofs.Common.{◌==◌, ap, ◌∙◌, rules}
use Rattle.std.proofs.lemmas.Iterator.{YieldsList-from_slice}
use Rattle.std.proofs.lemmas.Iterator.Search.{find_from_yields_List}
use Rattle.bookings.specs.Registers.{first_with}
use Rattle.bookings.specs.declared.states.Booking.{Booking}
use Rattle.bookings.proofs.register.Register.find.Goals as goal
use borrow.Author.Tests.{tests}

pub returns : goal.returns
returns c =
    c.copied.ensures
    ∙ find_from_yields_List (λ (b : Booking). b.number == c.args.number) _ _ c.find.result c.find.ensures.ran
    (YieldsList-from_slice c.deref.result.now cc) (λ x b q k. search (rules, tests))
    ∙ ap (first_with c.args.number) c.deref.ensures.value
