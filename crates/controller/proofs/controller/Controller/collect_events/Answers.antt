use Rattle.std.proofs.Common.{◌≡◌, ◌+◌, ◌-◌, sym, ◌∙◌, arith}
use Rattle.controller.proofs.Listing.{collected_both, collected_neither}
use Rattle.controller.proofs.controller.Controller.collect_events.Goals as goal
use Rattle.controller.proofs.controller.Controller.collect_events.Goals.{in-Some, in_default}

pub loop-booking-preserved : goal.loop-booking-preserved
loop-booking-preserved g c =
    let l = c.loop-booking in
    let m = g.B.Book.meaning c.args.self.now.book in
    let bs = c.bookings-booking-items.result.now in
    elim c.match-timing.branch [
      | in-Some w ↦
          let two = w.copy_from_slice.ensures.after ∙ w.events.ensures in
          let width : l.count + 2 - l.count ≡ 2 = omega arith in
          rw (w.shift-is, w.count-is, two, width)
          (collected_both m bs c.args.shift.now l.shift l.booking-index l.count c.booking-item.result
          c.loop-booking-test.true c.booking-item.is l.invariant w.in-Some.timing
          (sym w.in-Some.is ∙ c.timing.ensures))
      | in_default w ↦
          rw (w.shift-is, w.count-is)
          (collected_neither m bs c.args.shift.now l.shift l.booking-index l.count
          c.booking-item.result c.loop-booking-test.true c.booking-item.is l.invariant
          (sym w.in_default.is ∙ c.timing.ensures))
    ]
