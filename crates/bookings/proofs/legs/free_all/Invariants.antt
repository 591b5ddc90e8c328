use Rattle.std.proofs.Common.{◌≡◌, drop}
use Rattle.book.specs.Meaning.{Meaning}
use Rattle.bookings.specs.Owed.{more}
use Rattle.bookings.proofs.legs.free_all.Given as goal

abbrev pub invariant-loop-leg : goal.invariant-loop-leg
invariant-loop-leg g l =
    (rest : Meaning) → g.B.Book.meaning l.initial.book ≡ more rest l.legs
    → g.B.Book.meaning l.book ≡ more rest (drop l.leg-index l.legs)
