-- What a grid book means, and that it is sound.
use Rattle.std.proofs.Common.{subst}
use Rattle.std.specs.Prelude.{◌≤◌}
use Rattle.plan.specs.Limits.{most_legs}
use Rattle.book.proofs.Bottoms.{bottom_sound, shown_fits}
use Rattle.book.specs.Meaning.{Meaning, Sound}
use Rattle.book.specs.ShownPlan.{shown_of}
use Rattle.grid_book.specs.Grid.{byte_at, grid_meaning, suffices}
use Rattle.grid_book.specs.declared.grid.GridBook.{GridBook}

abbrev pub grid_of : GridBook → Meaning
grid_of b = grid_meaning (shown_of b.plan) b.cells.now

pub grid_sound : (b : GridBook) → Sound (grid_of b)
grid_sound b =
    bottom_sound (shown_of b.plan) (suffices (shown_of b.plan) b.cells.now) (byte_at (shown_of b.plan) b.cells.now) (shown_fits b.plan)
    (subst (λ n. n ≤ most_legs) b.counted b.few)
