-- What a leg book means, and that it is sound.
use Rattle.std.proofs.Common.{subst}
use Rattle.std.specs.Prelude.{◌≤◌}
use Rattle.plan.specs.Limits.{most_legs}
use Rattle.book.proofs.Bottoms.{bottom_sound, shown_fits}
use Rattle.book.specs.Meaning.{Meaning, Sound}
use Rattle.book.specs.ShownPlan.{shown_of}
use Rattle.leg_book.specs.Records.{count_at, legs_meaning, part_used, suffices}
use Rattle.leg_book.specs.declared.legs.LegBook.{LegBook}

abbrev pub legs_of : LegBook → Meaning
legs_of b = legs_meaning (shown_of b.plan) b.records.now

pub legs_sound : (b : LegBook) → Sound (legs_of b)
legs_sound b =
    bottom_sound (shown_of b.plan) (suffices b.records.now) (count_at (part_used b.records.now)) (shown_fits b.plan)
    (subst (λ n. n ≤ most_legs) b.counted b.few)
