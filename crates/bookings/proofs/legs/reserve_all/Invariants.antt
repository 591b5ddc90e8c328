use Rattle.std.proofs.Common.{◌≡◌, take}
use Rattle.bookings.specs.Owed.{more}
use Rattle.bookings.specs.Reserving.{Reservable}
use Rattle.bookings.proofs.legs.reserve_all.Given as goal

abbrev pub invariant-loop-leg : goal.invariant-loop-leg
invariant-loop-leg g l =
    Reservable (g.B.Book.meaning l.initial.book) l.legs
    → g.B.Book.meaning l.book ≡ more (g.B.Book.meaning l.initial.book) (take l.leg-index l.legs)
