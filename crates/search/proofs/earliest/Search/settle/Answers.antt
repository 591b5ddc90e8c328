use Rattle.std.proofs.Common.{◌≡◌, ◌<◌, refl, ap, sym, ◌∙◌, ⊎_elim, arith}
use Rattle.std.proofs.lemmas.Bool.{cases_eq}
use Rattle.book.specs.Meaning.{segments}
use Rattle.walks.specs.Walks.{from}
use Rattle.walks.proofs.Settling.{turn_at, turn_begins, turn_ends, turn_past, turn_relaxed, turn_room}
use Rattle.search.specs.Arrivals.{best}
use Rattle.search.proofs.earliest.Search.settle.Goals as goal

pub loop-segment-init : goal.loop-segment-init
loop-segment-init g c = record {
  turn = turn_begins (g.B.Book.meaning c.args.self.now.book.now) c.args.junction (best c.args.self.now.arrivals.junctions)
      c.args.queue.now c.requires;
  settled = refl;
  book = refl;
}

pub relax-requires : goal.relax-requires
relax-requires g c =
    let m = g.B.Book.meaning c.args.self.now.book.now in
    let at_loop = sym c.loop-segment.invariant.book in
    let known : c.loop-segment.segment < segments m =
    omega (arith, ap (λ s. s.segments) c.sizes-segment-end.ensures) in
    let room = turn_room c.loop-segment.invariant.turn known in
    record { known = rw at_loop at known; room = rw at_loop at room }

pub loop-segment-preserved : goal.loop-segment-preserved
loop-segment-preserved g c =
    let m = g.B.Book.meaning c.args.self.now.book.now in
    let sound = g.met.B.Book.sound c.args.self.now.book.now in
    let invariant = c.loop-segment.invariant in
    let known : c.loop-segment.segment < segments m =
    omega (arith, ap (λ s. s.segments) c.sizes-segment-end.ensures) in
    record {
      turn =
          ⊎_elim
          (λ here.
          turn_relaxed invariant.turn sound known here _ c.relax.new.queue c.relax.ensures.keeps
          ((rw invariant.book at c.relax.ensures.here) here))
          (λ apart.
          let same = (rw invariant.book at c.relax.ensures.elsewhere) apart in
          turn_at (turn_past invariant.turn sound known apart) same.0 same.1)
          (cases_eq (from m c.loop-segment.segment) c.args.junction);
      settled = c.relax.ensures.settled ∙ invariant.settled;
      book = c.relax.ensures.book ∙ invariant.book;
    }

pub returns : goal.returns
returns g c =
    let m = g.B.Book.meaning c.args.self.now.book.now in
    let invariant = c.loop-segment.invariant in
    let all : c.loop-segment.segment ≡ segments m =
    omega (arith, ap (λ s. s.segments) c.sizes-segment-end.ensures) in
    record {
      goes = turn_ends invariant.turn all;
      keeps = invariant.turn.keeps;
      settled = invariant.settled;
      book = invariant.book;
    }
