use Rattle.std.proofs.Common.{sym, ◌∙◌, subst, arith}
use Rattle.std.proofs.lemmas.Bool.{leb-false, leb-true}
use Rattle.queue.specs.Queue.{held}
use Rattle.walks.specs.Relaxed.{Relaxed}
use Rattle.search.specs.Arrivals.{best}
use Rattle.search.proofs.Putting.{put_added, put_ok}
use Rattle.search.proofs.Showing.{relaxed_better, relaxed_kept, relaxed_unreached, shown_slot, shows}
use Rattle.search.proofs.earliest.Search.relax.Goals as goal

pub returns-in_default-at-clause-here : goal.returns-in_default-at-clause-here
returns-in_default-at-clause-here g c =
    let sound = g.met.B.Book.sound c.args.self.now.book.now in
    λ _. relaxed_unreached (shows sound c.in-Some.ensures) _ _ sound c.in_default-at.ensures

pub overflow_add-slot : goal.overflow_add-slot
overflow_add-slot g c =
    let sound = g.met.B.Book.sound c.args.self.now.book.now in
    let low = shown_slot (shows sound c.in-Some.ensures) (best c.args.self.now.arrivals.junctions) (held c.args.queue.now)
    c.in-Some-at.from c.in-Some-at.ensures.0 c.in-Some-next_entry.entry c.in-Some-next_entry.ensures sound in
    record { fits = omega (arith, low) }

pub is_reached_by-requires-clause-near : goal.is_reached_by-requires-clause-near
is_reached_by-requires-clause-near g c =
    let sound = g.met.B.Book.sound c.args.self.now.book.now in
    let low = shown_slot (shows sound c.in-Some.ensures) (best c.args.self.now.arrivals.junctions) (held c.args.queue.now)
    c.in-Some-at.from c.in-Some-at.ensures.0 c.in-Some-next_entry.entry c.in-Some-next_entry.ensures sound in
    omega (arith, low)

pub returns-then-is_reached_by-clause-here : goal.returns-then-is_reached_by-clause-here
returns-then-is_reached_by-clause-here g c =
    let sound = g.met.B.Book.sound c.args.self.now.book.now in
    λ _.
    relaxed_kept (shows sound c.in-Some.ensures) _ _ c.in-Some-at.from c.in-Some-at.ensures.0
    c.in-Some-next_entry.entry c.in-Some-next_entry.ensures
    (leb-true _ _ (sym c.is_reached_by.ensures ∙ c.if-is_reached_by.true))

pub reach-requires-clause-near : goal.reach-requires-clause-near
reach-requires-clause-near g c =
    let sound = g.met.B.Book.sound c.args.self.now.book.now in
    let low = shown_slot (shows sound c.in-Some.ensures) (best c.args.self.now.arrivals.junctions) (held c.args.queue.now)
    c.in-Some-at.from c.in-Some-at.ensures.0 c.in-Some-next_entry.entry c.in-Some-next_entry.ensures sound in
    omega (arith, low)

pub unwrap-requires : goal.unwrap-requires
unwrap-requires g c =
    let shown = shows (g.met.B.Book.sound c.args.self.now.book.now) c.in-Some.ensures in
    put_ok _ _ _ _ c.put.ensures.outcome (c.requires.room (sym shown.start_is ∙ c.if-start-junction.false))

pub returns-clause-here : goal.returns-clause-here
returns-clause-here g c =
    let shown = shows (g.met.B.Book.sound c.args.self.now.book.now) c.in-Some.ensures in
    let added = put_added _ _ _ _ c.put.ensures.outcome (c.requires.room (sym shown.start_is ∙ c.if-start-junction.false)) in
    λ _.
    subst
    (λ table. Relaxed (g.B.Book.meaning c.args.self.now.book.now) c.args.segment (best c.args.self.now.arrivals.junctions)
    (held c.args.queue.now) table (held c.put.new.self))
    (sym c.reach.ensures.best)
    (relaxed_better shown _ _ c.in-Some-at.from c.in-Some-at.ensures.0 c.in-Some-next_entry.entry
    c.in-Some-next_entry.ensures _ (leb-false _ _ (sym c.is_reached_by.ensures ∙ c.if-is_reached_by.false)) added.one_more)

pub returns-clause-elsewhere : goal.returns-clause-elsewhere
returns-clause-elsewhere g c =
    let shown = shows (g.met.B.Book.sound c.args.self.now.book.now) c.in-Some.ensures in
    λ apart. absurd (apart (sym shown.start_is ∙ c.if-start-junction.false))
