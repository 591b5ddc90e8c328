use Rattle.std.proofs.Common.{ℕ, vec_items, vec_len}
use Rattle.book.specs.Meaning.{Meaning}
use Rattle.bookings.specs.declared.register.Register.{Register}
use Rattle.histories.specs.Parked.{Parking}
use Rattle.rehearsal.specs.TokenLists.{out}
use Rattle.rehearsal.proofs.caller.Caller.park_all.Given as goal

abbrev pub invariant-loop-hold : goal.invariant-loop-hold
invariant-loop-hold g l =
    Parking (g.B.Book.meaning l.initial.controller.book) l.initial.controller.register
    (g.B.Book.meaning l.controller.book) l.controller.register (out (vec_items l.holds)) (out (vec_items l.passages))

abbrev pub decreases-loop-hold : goal.decreases-loop-hold
decreases-loop-hold g l = vec_len l.holds

abbrev pub invariant-loop-passage : goal.invariant-loop-passage
invariant-loop-passage g l =
    (m : Meaning) (f : Register) (H : ℕ → ℕ)
    → Parking m f (g.B.Book.meaning l.initial.controller.book) l.initial.controller.register H
    (out (vec_items l.initial.passages))
    → Parking m f (g.B.Book.meaning l.controller.book) l.controller.register H (out (vec_items l.passages))

abbrev pub decreases-loop-passage : goal.decreases-loop-passage
decreases-loop-passage g l = vec_len l.passages
