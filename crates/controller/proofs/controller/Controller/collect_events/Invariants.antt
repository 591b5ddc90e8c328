use Rattle.controller.proofs.Listing.{CollectedFrom}
use Rattle.controller.proofs.controller.Controller.collect_events.Given as goal

abbrev pub invariant-loop-booking : goal.invariant-loop-booking
invariant-loop-booking g l =
    CollectedFrom (g.B.Book.meaning l.self.book) l.booking-items l.initial.shift l.shift
    l.booking-index l.count
