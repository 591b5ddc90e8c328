use Rattle.std.proofs.Common.{◌≡◌, ◌+◌, ◌*◌, false, sym, arith, rules}
use Rattle.book.proofs.Bottoms.{Keeps, shown_fits}
use Rattle.book.proofs.Calling.{few_stand, reserves_ok}
use Rattle.book.specs.Bottom.{keeps_at}
use Rattle.book.specs.ShownPlan.{shown_of}
use Rattle.grid_book.specs.Grid.{suffices}
use Rattle.grid_book.specs.GridBook.{grid_of}
use Rattle.grid_book.proofs.Cells.{counts_more, one_more, reads, unkept}
use Rattle.grid_book.proofs.grid.booked.GridBookBook.reserve.Goals as goal

pub returns-in_err-place-clause-does : goal.returns-in_err-place-clause-does
returns-in_err-place-clause-does c =
    let b = c.args.self.now in
    let s = shown_of b.plan in
    let l = c.args.leg in
    let none : keeps_at s (suffices s b.cells.now) l.segment l.entry ≡ false = search rules in
    let shut = unkept s b.cells.now l (shown_fits b.plan) none in
    search rules

pub overflow_add-self : goal.overflow_add-self
overflow_add-self c =
    let b = c.args.self.now in
    let s = shown_of b.plan in
    let l = c.args.leg in
    let at : Keeps s (suffices s b.cells.now) l.segment l.entry = search rules in
    let is : c.in_ok-place.place ≡ l.segment * s.horizon + l.entry = search rules in
    let few = few_stand (grid_of b) l (shown_fits b.plan) (sym c.if-not-admissible.ensures) in
    record { fits = omega (arith, few, reads s b.cells.now l c.in_ok-place.place at is) }

pub invariant_of-self : goal.invariant_of-self
invariant_of-self c =
    let b = c.args.self.now in
    let s = shown_of b.plan in
    let l = c.args.leg in
    let at : Keeps s (suffices s b.cells.now) l.segment l.entry = search rules in
    let is : c.in_ok-place.place ≡ l.segment * s.horizon + l.entry = search rules in
    let counted = b.counted in
    record { counted = omega (arith, counts_more s b.cells.now l c.in_ok-place.place at is, counted); few = omega arith }

pub returns-clause-does : goal.returns-clause-does
returns-clause-does c =
    let b = c.args.self.now in
    let s = shown_of b.plan in
    let l = c.args.leg in
    let at : Keeps s (suffices s b.cells.now) l.segment l.entry = search rules in
    let is : c.in_ok-place.place ≡ l.segment * s.horizon + l.entry = search rules in
    record {
      answer = reserves_ok (grid_of b) l (sym c.if-not-admissible.ensures) (omega (arith, b.counted));
      change = one_more s b.cells.now l c.in_ok-place.place at is;
    }
