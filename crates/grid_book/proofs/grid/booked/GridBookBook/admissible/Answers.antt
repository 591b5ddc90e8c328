use Rattle.std.proofs.Common.{ap, ◌∙◌}
use Rattle.book.proofs.Piling.{held_none}
use Rattle.book.specs.Loads.{admissible}
use Rattle.grid_book.specs.GridBook.{grid_of}
use Rattle.grid_book.proofs.grid.booked.GridBookBook.admissible.Goals as goal

pub returns : goal.returns
returns c =
    c.admissible_held_back.ensures ∙ ap (λ m. admissible m c.args.leg) (held_none (grid_of c.args.self.now))
