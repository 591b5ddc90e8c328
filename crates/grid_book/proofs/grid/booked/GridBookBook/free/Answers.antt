use Rattle.std.proofs.Common.{◌≡◌, ◌+◌, ◌-◌, ◌*◌, ◌≤◌, get_or, arith, rules}
use Rattle.book.proofs.Bottoms.{Keeps}
use Rattle.book.proofs.Calling.{frees_ok}
use Rattle.book.specs.ShownPlan.{shown_of}
use Rattle.grid_book.specs.Grid.{suffices}
use Rattle.grid_book.specs.GridBook.{grid_of}
use Rattle.grid_book.proofs.Cells.{counts_less, one_less, reads}
use Rattle.grid_book.proofs.grid.booked.GridBookBook.free.Goals as goal

pub overflow_sub-self : goal.overflow_sub-self
overflow_sub-self c =
    let b = c.args.self.now in
    let s = shown_of b.plan in
    let l = c.args.leg in
    let p = c.in_ok-place.place in
    let at : Keeps s (suffices s b.cells.now) l.segment l.entry = search rules in
    let is : p ≡ l.segment * s.horizon + l.entry = search rules in
    let some : 1 ≤ get_or b.cells.now p 0 = search rules in
    let counted = b.counted in
    omega (arith, counts_less s b.cells.now l p at is some, counted)

pub invariant_of-self : goal.invariant_of-self
invariant_of-self c =
    let b = c.args.self.now in
    let s = shown_of b.plan in
    let l = c.args.leg in
    let p = c.in_ok-place.place in
    let at : Keeps s (suffices s b.cells.now) l.segment l.entry = search rules in
    let is : p ≡ l.segment * s.horizon + l.entry = search rules in
    let some : 1 ≤ get_or b.cells.now p 0 = search rules in
    let left : c.in_ok-left.left ≡ get_or b.cells.now p 0 - 1 = search rules in
    let counted = b.counted in
    let few = b.few in
    record {
      counted = rw left (omega (arith, counts_less s b.cells.now l p at is some, counted));
      few = omega (arith, few);
    }

pub returns-clause-does : goal.returns-clause-does
returns-clause-does c =
    let b = c.args.self.now in
    let s = shown_of b.plan in
    let l = c.args.leg in
    let p = c.in_ok-place.place in
    let at : Keeps s (suffices s b.cells.now) l.segment l.entry = search rules in
    let is : p ≡ l.segment * s.horizon + l.entry = search rules in
    let some : 1 ≤ get_or b.cells.now p 0 = search rules in
    let left : c.in_ok-left.left ≡ get_or b.cells.now p 0 - 1 = search rules in
    record {
      answer = frees_ok (grid_of b) l (λ none. absurd (omega (arith, reads s b.cells.now l p at is, some, none)));
      change = rw left (one_less s b.cells.now l p at is some);
    }
