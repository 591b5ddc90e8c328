use Rattle.std.proofs.Common.{refl}
use Rattle.book.specs.Loads.{admissible, has_room, load_below}
use Rattle.book.proofs.laws.worked_entries_stand.Goals as goal

pub returns : goal.returns
unfolding admissible has_room load_below
returns c = record { four_slots = refl; five_slots = refl; empty = refl }
