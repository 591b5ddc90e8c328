use Rattle.std.proofs.Common.{length, sym, subst, rules}
use Rattle.bookings.specs.declared.calls.Call.TheVariants.{Ask}
use Rattle.histories.proofs.Courses.{going_next, recorded_next}
use Rattle.histories.specs.Courses.{Going, Recorded}
use Rattle.rehearsal.proofs.CallLists.{calls_push}
use Rattle.rehearsal.proofs.run.Run.play.Goals as goal

pub invariant_of-self-clause-recorded : goal.invariant_of-self-clause-recorded
invariant_of-self-clause-recorded g c =
    subst (Recorded _) (sym c.push_reserved.ensures.items)
    (recorded_next _ _ _ _ _ _ c.make-exchange.ensures.made c.loop-call.self.recorded)

pub loop-call-preserved : goal.loop-call-preserved
loop-call-preserved g c =
    let before = c.loop-call.invariant in
    record {
      going = λ w start.
          subst (Going w _) (sym c.push_reserved.ensures.items)
          (going_next _ _ _ _ _ _ c.make-exchange.ensures.made c.loop-call.self.recorded w
          (g.met.B.Book.sound c.loop-call.self.caller.controller.book) (before.going w start));
      made =
          calls_push (length c.args.scratch.now) (length c.loop-call.scratch) _ c.args.calls.now
          c.loop-call.call-index (Ask (record { origin = 0; destination = 0; slot = 0 }) 0) _ _ _
          c.loop-call-test.true before.made c.push_reserved.ensures.items c.make-exchange.ensures.call before.scratch;
      len = search rules;
      room = search rules;
      scratch = search rules;
    }
