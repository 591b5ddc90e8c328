use Rattle.std.proofs.Common.{ap, ◌∙◌}
use Rattle.book.proofs.Piling.{held_none}
use Rattle.book.specs.Loads.{admissible}
use Rattle.leg_book.specs.LegBook.{legs_of}
use Rattle.leg_book.proofs.legs.booked.LegBookBook.admissible.Goals as goal

pub returns : goal.returns
returns c =
    c.admissible_held_back.ensures ∙ ap (λ m. admissible m c.args.leg) (held_none (legs_of c.args.self.now))
