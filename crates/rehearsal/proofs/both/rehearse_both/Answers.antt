use Rattle.std.proofs.Common.{[], ◌∷◌, map, length, vec_items, refl, ap, ◌∙◌}
use Rattle.bookings.specs.declared.calls.Call.TheVariants.{Ask}
use Rattle.histories.proofs.Alike.{promises_same}
use Rattle.histories.proofs.Courses.{going_none}
use Rattle.rehearsal.proofs.CallLists.{calls_then}
use Rattle.rehearsal.proofs.Finishing.{rehearsed}
use Rattle.rehearsal.proofs.both.rehearse_both.Goals as goal

pub returns : goal.returns
returns g c =
    let n = length c.args.scratch.now in
    let last = Ask c.args.request n ∷ [] in
    let w = g.A.Book.meaning c.args.first in
    let v = g.B.Book.meaning c.args.second in
    let one = c.in-Ok.ensures in
    let two = c.in-Ok-start.ensures in
    let second_labels = c.play.ensures.scratch in
    let third_labels = c.play-2.ensures.scratch ∙ second_labels in
    let first =
    rehearsed w _ _ _ _ _ _ _ c.play-2.new.self.recorded c.finish.ensures.parked
    (ap vec_items c.finish.ensures.history)
    (calls_then n n _ c.args.calls.now last _ _ _ (ap (map (λ x. x.call)) one.1) c.play.ensures.made
    c.play-2.ensures.made refl second_labels)
    (λ none.
    c.play-2.ensures.going w
    (c.play.ensures.going w
    (going_none w _ _ (g.met.A.Book.sound c.args.first) none (ap g.A.Book.meaning one.0) one.1))) in
    let second =
    rehearsed v _ _ _ _ _ _ _ c.play-4.new.self.recorded c.finish-2.ensures.parked
    (ap vec_items c.finish-2.ensures.history)
    (calls_then n _ _ c.args.others.now last _ _ _ (ap (map (λ x. x.call)) two.1) c.play-3.ensures.made
    c.play-4.ensures.made third_labels (c.play-3.ensures.scratch ∙ third_labels))
    (λ none.
    c.play-4.ensures.going v
    (c.play-3.ensures.going v
    (going_none v _ _ (g.met.B.Book.sound c.args.second) none (ap g.B.Book.meaning two.0) two.1))) in
    record {
      first = first;
      second = second;
      same = λ none nor. promises_same w _ v _ _ _ (first.promise none) (second.promise nor);
    }
