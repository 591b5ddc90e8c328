use Rattle.std.proofs.Common.{◌++◌, map, length, vec_items, ap, ◌∙◌}
use Rattle.histories.proofs.Courses.{going_none}
use Rattle.rehearsal.specs.Runs.{lent}
use Rattle.rehearsal.proofs.Finishing.{rehearsed}
use Rattle.rehearsal.proofs.rehearsing.rehearse.Goals as goal

pub returns : goal.returns
returns g c =
    let begun = c.in_ok-run.ensures in
    let w = g.B.Book.meaning c.args.book in
    rehearsed w _ _ _ _ _ _ _ c.play.new.self.recorded c.finish.ensures.parked
    (ap vec_items c.finish.ensures.history)
    (c.play.ensures.made
    ∙ ap (λ xs. map (λ x. x.call) xs ++ map (lent (length c.args.scratch.now)) c.args.calls.now) begun.1)
    (λ none.
    c.play.ensures.going w
    (going_none w _ _ (g.met.B.Book.sound c.args.book) none (ap g.B.Book.meaning begun.0) begun.1))
