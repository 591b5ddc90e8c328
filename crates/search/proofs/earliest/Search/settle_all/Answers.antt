use Rattle.std.proofs.Common.{sym, ◌∙◌, subst, arith}
use Rattle.std.proofs.lemmas.List.{length-map}
use Rattle.queue.specs.Queue.{held}
use Rattle.walks.proofs.Looping.{Follows, follows_past, follows_settled, follows_solves, remaining_settled, remaining_taken, waits_room, waits_within}
use Rattle.search.specs.Arrivals.{best, settled}
use Rattle.search.proofs.earliest.Search.settle_all.Goals as goal

pub is_settled-requires : goal.is_settled-requires
is_settled-requires g c =
    let waits = c.loop-label.invariant.follows.waits c.requires.some.0 c.requires.some.1 c.requires.some.2 in
    let within = waits_within waits c.in-Some.ensures.outcome.one_less in
    let arrivals = c.loop-label.self.arrivals in
    let sized = arrivals.sized in
    omega (arith, within, sized, length-map arrivals.junctions (λ a. a.settled))

pub mark_settled-requires : goal.mark_settled-requires
mark_settled-requires g c =
    let waits = c.loop-label.invariant.follows.waits c.requires.some.0 c.requires.some.1 c.requires.some.2 in
    let within = waits_within waits c.in-Some.ensures.outcome.one_less in
    let arrivals = c.loop-label.self.arrivals in
    let sized = arrivals.sized in
    omega (arith, within, sized, length-map arrivals.junctions (λ a. a.settled))

pub settle-requires : goal.settle-requires
settle-requires g c =
    let invariant = c.loop-label.invariant in
    let waits = invariant.follows.waits c.requires.some.0 c.requires.some.1 c.requires.some.2 in
    let take = c.in-Some.ensures in
    let heap = invariant.follows.keeps.heap c.requires.heap in
    let unsettled = sym c.is_settled.ensures ∙ c.if-not-is_settled.true in
    let room = waits_room waits take.outcome.one_less (take.least heap) unsettled in
    let at_loop = sym invariant.book in
    omega (arith, rw at_loop at room, take.room)

pub loop-label-smaller-then-not-is_settled : goal.loop-label-smaller-then-not-is_settled
loop-label-smaller-then-not-is_settled g c =
    let invariant = c.loop-label.invariant in
    let waits = invariant.follows.waits c.requires.some.0 c.requires.some.1 c.requires.some.2 in
    let take = c.in-Some.ensures in
    let heap = invariant.follows.keeps.heap c.requires.heap in
    let unsettled = sym c.is_settled.ensures ∙ c.if-not-is_settled.true in
    let marked = c.settle.ensures.settled ∙ c.mark_settled.ensures.settled in
    let same = c.mark_settled.ensures.best in
    let goes = rw invariant.book at c.settle.ensures.goes in
    let less = remaining_settled waits take.outcome.one_less (take.least heap) unsettled
    (best c.settle.new.self.arrivals.junctions) (held c.settle.new.queue) (rw same at goes) in
    rw marked less

pub loop-label-preserved-then-not-is_settled : goal.loop-label-preserved-then-not-is_settled
loop-label-preserved-then-not-is_settled g c =
    let invariant = c.loop-label.invariant in
    let take = c.in-Some.ensures in
    let heap = invariant.follows.keeps.heap c.requires.heap in
    let unsettled = sym c.is_settled.ensures ∙ c.if-not-is_settled.true in
    let marked = c.settle.ensures.settled ∙ c.mark_settled.ensures.settled in
    let same = c.mark_settled.ensures.best in
    let goes = rw invariant.book at c.settle.ensures.goes in
    record {
      follows =
          subst
          (λ s. Follows (g.B.Book.meaning c.args.self.now.book.now) (best c.args.self.now.arrivals.junctions)
          (settled c.args.self.now.arrivals.junctions) c.args.queue.now (best c.settle.new.self.arrivals.junctions) s
          c.settle.new.queue)
          (sym marked)
          (follows_settled invariant.follows (record { same_room = take.room; heap = take.heap }) take.outcome.one_less
          (take.least heap) unsettled _ c.settle.ensures.keeps (rw same at goes));
      book = c.settle.ensures.book ∙ invariant.book;
    }

pub loop-label-smaller : goal.loop-label-smaller
loop-label-smaller g c =
    remaining_taken (g.B.Book.meaning c.args.self.now.book.now) (settled c.loop-label.self.arrivals.junctions)
    c.in-Some.ensures.outcome.one_less

pub loop-label-preserved : goal.loop-label-preserved
loop-label-preserved g c =
    let invariant = c.loop-label.invariant in
    let take = c.in-Some.ensures in
    record {
      follows =
          follows_past invariant.follows (record { same_room = take.room; heap = take.heap }) take.outcome.one_less
          (sym c.is_settled.ensures ∙ c.if-not-is_settled.false);
      book = invariant.book;
    }

pub returns-clause-solves : goal.returns-clause-solves
returns-clause-solves g c =
    follows_solves c.loop-label.invariant.follows (g.met.B.Book.sound c.args.self.now.book.now)
    c.in_default.ensures.outcome.empty
