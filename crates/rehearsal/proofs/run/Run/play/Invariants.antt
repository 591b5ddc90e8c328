use Rattle.std.proofs.Common.{◌≡◌, ◌+◌, ◌++◌, map, length, take, vec_items, vec_len, vec_capacity}
use Rattle.book.specs.Meaning.{Meaning}
use Rattle.histories.specs.Courses.{Going}
use Rattle.rehearsal.specs.Runs.{lent}
use Rattle.rehearsal.proofs.run.Run.play.Given as goal

abbrev pub invariant-loop-call : goal.invariant-loop-call
invariant-loop-call g l = record {
  going :
      (w : Meaning)
      → Going w (g.B.Book.meaning l.initial.self.caller.controller.book) (vec_items l.initial.self.history)
      → Going w (g.B.Book.meaning l.self.caller.controller.book) (vec_items l.self.history);
  made :
      map (λ x. x.call) (vec_items l.self.history)
      ≡ map (λ x. x.call) (vec_items l.initial.self.history)
      ++ map (lent (length l.initial.scratch)) (take l.call-index l.calls);
  len : vec_len l.self.history ≡ vec_len l.initial.self.history + l.call-index;
  room : vec_capacity l.self.history ≡ vec_capacity l.initial.self.history;
  scratch : length l.scratch ≡ length l.initial.scratch;
}
