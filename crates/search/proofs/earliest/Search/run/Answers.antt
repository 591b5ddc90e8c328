use Rattle.std.proofs.Common.{◌≡◌, ℕ, ◌+◌, ◌<◌, ◌≤◌, Bool, false, List, [], ◌∷◌, length, replicate, set, sym, ap, ◌∙◌, subst, subst₂, arith}
use Rattle.std.specs.List.Sorted.{IsPermutation}
use Rattle.plan.specs.Limits.{most_junctions}
use Rattle.book.specs.Meaning.{Meaning, Sound, horizon, segments}
use Rattle.queue.specs.Queue.{Added, held, room}
use Rattle.queue.specs.declared.Queue.{Queue}
use Rattle.walks.specs.Labels.{far, label}
use Rattle.walks.specs.Searching.{Waits}
use Rattle.queue_client.specs.declared.label.Label.{Label}
use Rattle.walks.proofs.Looping.{waits_first}
use Rattle.search.proofs.Putting.{put_added, put_ok}
use Rattle.search.proofs.earliest.Search.run.Goals as goal

-- with the origin's label in the queue, and its slot in the table
first_waits : {m : Meaning} → Sound m → (o t : ℕ) → o < m.shown.junctions → t < horizon m
    → (none best : List ℕ) → none ≡ replicate most_junctions far → best ≡ set none o t
    → (unsettled settled : List Bool) → unsettled ≡ replicate most_junctions false → settled ≡ unsettled
    → (empty queue : Queue Label) → held empty ≡ [] → Added (label t o) empty queue → segments m + 1 ≤ room queue
    → Waits m o t best settled (held queue) (room queue)
first_waits {m} sound o t known early none best none_is best_is unsettled settled unsettled_is settled_is empty queue
    empty_is added enough =
    subst₂ (λ b s. Waits m o t b s (held queue) (room queue))
    (sym (best_is ∙ ap (λ b. set b o t) none_is))
    (sym (settled_is ∙ unsettled_is))
    (waits_first m sound o t (held queue) known early
    (subst (λ (q : List Label). IsPermutation (label t o ∷ q) (held queue)) empty_is added.one_more) (room queue) enough)

pub unwrap-requires : goal.unwrap-requires
unwrap-requires g c =
    put_ok _ _ _ _ c.put.ensures.outcome
    (omega (arith, ap length c.new-queue.ensures.empty, c.new-queue.ensures.room, c.requires.room))

pub settle_all-requires : goal.settle_all-requires
settle_all-requires g c =
    let added = put_added _ _ _ _ c.put.ensures.outcome
    (omega (arith, ap length c.new-queue.ensures.empty, c.new-queue.ensures.room, c.requires.room)) in
    record {
      heap = c.put.ensures.heap c.new-queue.ensures.heap;
      some = (
        c.args.request.origin,
        c.args.request.slot,
        first_waits (g.met.B.Book.sound c.args.book.now) _ _ c.requires.known c.requires.early _ _ c.new.ensures.best
            c.reach.ensures.best _ _ c.new.ensures.settled c.reach.ensures.settled _ _ c.new-queue.ensures.empty added
            (omega (arith, c.put.ensures.room, c.new-queue.ensures.room, c.requires.room)),
      );
    }

pub returns-clause-solved : goal.returns-clause-solved
returns-clause-solved g c =
    let added = put_added _ _ _ _ c.put.ensures.outcome
    (omega (arith, ap length c.new-queue.ensures.empty, c.new-queue.ensures.room, c.requires.room)) in
    c.settle_all.ensures.solves c.args.request.origin c.args.request.slot c.requires.known c.requires.early
    (first_waits (g.met.B.Book.sound c.args.book.now) _ _ c.requires.known c.requires.early _ _ c.new.ensures.best
    c.reach.ensures.best _ _ c.new.ensures.settled c.reach.ensures.settled _ _ c.new-queue.ensures.empty added
    (omega (arith, c.put.ensures.room, c.new-queue.ensures.room, c.requires.room)))
