use Rattle.std.proofs.Common.{◌≡◌, ℕ, refl, ap, inl, arith, rules}
use Rattle.book.proofs.Segments.{segment_none, segment_some}
use Rattle.book.specs.Rows.{NoRow}
use Rattle.book.specs.ShownPlan.{shown_of}
use Rattle.leg_book.specs.LegBook.{legs_of, legs_sound}
use Rattle.leg_book.proofs.Stores.{is_row}
use Rattle.leg_book.proofs.legs.booked.LegBookRows.with_row.Goals as goal

pub returns-in_err-slots : goal.returns-in_err-slots
returns-in_err-slots g c =
    let b = c.args.self.now in
    let i = c.args.segment in
    let unknown = segment_none (legs_of b) i c.in_err-slots.ensures in
    let none : NoRow (legs_of b) i = record { empty = λ e. (legs_sound b).known_segments i e unknown; shut = inl unknown } in
    search rules

pub returns : goal.returns
returns g c =
    let b = c.args.self.now in
    let s = shown_of b.plan in
    let i = c.args.segment in
    let short = b.plan.few_slots in
    let h = c.sizes.result.horizon in
    let is : h ≡ s.horizon = omega (arith, c.sizes.ensures.horizon) in
    let numbers = segment_some (legs_of b) i _ c.in_ok-slots.ensures in
    let table = c.in_ok-table.ensures in (
      _,
      is_row s b.records.now table.0 i h c.in_ok-table.table _ numbers.0 short is table.1 table.2 refl
          (ap (λ (q : ℕ × ℕ × ℕ × ℕ). q.2) numbers.1) (ap (λ (q : ℕ × ℕ × ℕ × ℕ). q.3) numbers.1),
      c.ask.ensures,
    )
