use Rattle.std.proofs.Common.{◌≡◌, ℕ, ◌+◌, ◌-◌, ◌*◌, true, refl, ap, arith, rules}
use Rattle.book.proofs.Segments.{segment_some}
use Rattle.book.specs.ShownPlan.{shown_of}
use Rattle.book.specs.declared.legs.Sizes.{Sizes}
use Rattle.grid_book.specs.Grid.{suffices}
use Rattle.grid_book.specs.GridBook.{grid_of}
use Rattle.grid_book.proofs.Cells.{is_row, row_ends}
use Rattle.grid_book.proofs.grid.GridBook.row.Goals as goal

pub slice_bounds-entering-end : goal.slice_bounds-entering-end
slice_bounds-entering-end c =
    let b = c.args.self.now in
    let s = shown_of b.plan in
    let i = c.args.segment in
    let keeps : suffices s b.cells.now ≡ true = search rules in
    let known = (segment_some (grid_of b) i _ c.in_ok-slots.ensures).0 in
    row_ends s b.cells.now i _ _ keeps known (ap (λ (z : Sizes). i * z.horizon) c.sizes-sizes.ensures)
    (ap (λ (z : Sizes). z.horizon) c.sizes-sizes.ensures)

pub returns : goal.returns
returns c =
    let b = c.args.self.now in
    let s = shown_of b.plan in
    let i = c.args.segment in
    let h = c.sizes-sizes.result.horizon in
    let keeps : suffices s b.cells.now ≡ true = search rules in
    let numbers = segment_some (grid_of b) i _ c.in_ok-slots.ensures in
    let long : i * h + h - i * h ≡ s.horizon = omega (arith, ap (λ (z : Sizes). z.horizon) c.sizes-sizes.ensures) in
    is_row s b.cells.now i (i * h) (i * h + h - i * h) keeps numbers.0 (ap (λ (z : Sizes). i * z.horizon) c.sizes-sizes.ensures) long
    _ refl (ap (λ (q : ℕ × ℕ × ℕ × ℕ). q.2) numbers.1) (ap (λ (q : ℕ × ℕ × ℕ × ℕ). q.3) numbers.1)
