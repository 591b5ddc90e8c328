use Rattle.std.proofs.Common.{◌<◌, sym, ◌∙◌, ⊎_elim, arith}
use Rattle.std.proofs.lemmas.Bool.{cases_lt, leb-false, leb-true}
use Rattle.search.specs.Arrivals.{best}
use Rattle.search.proofs.Showing.{shows}
use Rattle.search.proofs.Stepping.{not_into_late, not_into_unreached, step_if_fits}
use Rattle.search.proofs.earliest.Search.step_over.Goals as goal

pub returns-in_err-at : goal.returns-in_err-at
returns-in_err-at g c =
    rw c.from_residual-in_err-at.ensures
    (not_into_unreached (g.met.B.Book.sound c.args.self.now.book.now) (best c.args.self.now.arrivals.junctions)
    c.args.junction c.args.segment c.in_err-at.ensures)

pub returns-in_err-entry : goal.returns-in_err-entry
returns-in_err-entry g c =
    let shown = shows (g.met.B.Book.sound c.args.self.now.book.now) c.in_ok-start.ensures in
    let early : c.in_ok-at.field-0 < c.in_ok-start.slots =
    ⊎_elim (λ before. before) (λ past. absurd (c.in_err-entry.ensures past))
    (cases_lt c.in_ok-at.field-0 c.in_ok-start.slots) in
    rw c.from_residual-in_err-entry.ensures
    (not_into_late shown (best c.args.self.now.arrivals.junctions) c.args.junction (omega (arith, early, c.in_ok-at.ensures.0)))

pub is_reached_by-requires-clause-known : goal.is_reached_by-requires-clause-known
is_reached_by-requires-clause-known g c =
    let sound = g.met.B.Book.sound c.args.self.now.book.now in
    let start = (shows sound c.in_ok-start.ensures).start_known in
    let few = sound.plan_fits.few_junctions in
    omega (arith, start, few)

pub returns-then-not-is_reached_by : goal.returns-then-not-is_reached_by
returns-then-not-is_reached_by g c =
    let shown = shows (g.met.B.Book.sound c.args.self.now.book.now) c.in_ok-start.ensures in
    let less = c.in_ok-entry.ensures in
    let late = leb-false _ _ (sym c.is_reached_by.ensures ∙ c.if-not-is_reached_by.true) in
    not_into_late shown (best c.args.self.now.arrivals.junctions) c.args.junction
    (omega (arith, late, less.0, less.1, c.in_ok-at.ensures.0))

pub returns : goal.returns
returns g c =
    let shown = shows (g.met.B.Book.sound c.args.self.now.book.now) c.in_ok-start.ensures in
    let less = c.in_ok-entry.ensures in
    let by = leb-true _ _ (sym c.is_reached_by.ensures ∙ c.if-not-is_reached_by.false) in
    rw c.then_some.ensures
    (step_if_fits shown (best c.args.self.now.arrivals.junctions) c.args.junction c.in_ok-entry.entry
    (omega (arith, less.1, c.in_ok-at.ensures.0)) c.admissible.result c.admissible.ensures c.if-end-junction.false
    (omega (arith, by, less.0, less.1, c.in_ok-at.ensures.0)))
