use Rattle.std.proofs.Common.{◌-◌, get_or, set, ap, ◌∙◌, arith, length-set}
use Rattle.book.specs.Meaning.{total}
use Rattle.book.proofs.Loading.{total_counts}
use Rattle.layer_cases.specs.Row.{row_meaning}
use Rattle.layer_cases.proofs.Rows.{at_most_all, set_less, standing_at, standing_inside}
use Rattle.layer_cases.proofs.row.booked.RowBookBook.free.Goals as goal

pub overflow_sub-self-2 : goal.overflow_sub-self-2
overflow_sub-self-2 c =
    let b = c.args.self.now in
    let l = c.args.leg in
    let inside = standing_inside b.row l.segment l.entry (λ none. c.if-standing-eq0.false (c.standing.ensures ∙ none)) in
    let most = at_most_all b.slots b.limit b.row l inside.0 inside.1 in
    let here = standing_at b.row l inside.0 inside.1 in
    let all = b.counted in
    let some = c.standing.ensures in
    omega arith

pub invariant_of-self : goal.invariant_of-self
invariant_of-self c =
    let b = c.args.self.now in
    let l = c.args.leg in
    let inside = standing_inside b.row l.segment l.entry (λ none. c.if-standing-eq0.false (c.standing.ensures ∙ none)) in
    let here = standing_at b.row l inside.0 inside.1 in
    let some = c.standing.ensures in
    let less = ap total (set_less b.slots b.limit b.row l inside.0 inside.1 b.sized (omega arith)) in
    let after = row_meaning b.slots b.limit (set b.row l.entry (get_or b.row l.entry 0 - 1)) in
    let counts = total_counts after l (omega arith) inside.1 in
    let all = b.counted in
    let few = b.few in
    record {
      sized = length-set b.row l.entry _ ∙ b.sized;
      takes = b.takes;
      short = b.short;
      small = b.small;
      counted = omega arith;
      few = omega arith;
    }
