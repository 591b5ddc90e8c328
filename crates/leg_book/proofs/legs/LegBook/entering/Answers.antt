use Rattle.std.proofs.Common.{◌+◌, ◌<◌, length, get_or, take, set, sym, refl, ap, ap₂, ◌∙◌, inl, inr, ⊎_elim, arith, length-set}
use Rattle.std.proofs.lemmas.List.{get_or-replicate, get_or-set_other, get_or-set_same}
use Rattle.std.proofs.lemmas.Bool.{cases_eq}
use Rattle.plan.specs.Limits.{most_slots}
use Rattle.book.proofs.Reserving.{one_here}
use Rattle.book.specs.Meaning.{one}
use Rattle.book.specs.ShownPlan.{shown_of}
use Rattle.leg_book.specs.Records.{count_at, in_plan, no_record}
use Rattle.leg_book.proofs.Records.{count_at_part, count_next, count_same, leg_in_plan, one_elsewhere}
use Rattle.leg_book.proofs.legs.LegBook.entering.Goals as goal
use Rattle.leg_book.proofs.legs.LegBook.entering.Goals.{in-Some+then-leg-segment, in-Some+else-leg-segment, in_default}

pub loop-record-init : goal.loop-record-init
loop-record-init c = record { long = refl; counts = λ e below. get_or-replicate 512 e 0 0 below }

pub overflow_add-table : goal.overflow_add-table
overflow_add-table c =
    let b = c.args.self.now in
    let rs = c.in_ok-part.part.now in
    let k = c.loop-record.record-index in
    let i = c.args.segment in
    let l = c.in-Some.leg in
    let part = c.in_ok-part.ensures in
    let plan = leg_in_plan (shown_of b.plan) (get_or rs k no_record) l c.in-Some.is
    (ap (λ xs. in_plan (shown_of b.plan) (get_or xs k no_record)) part.0 ∙ b.legal part.1 k) in
    let short = b.plan.few_slots in
    let here = count_next rs k c.loop-record-test.true i l c.in-Some.is l.entry in
    let once = ap (λ x. one l x l.entry) (sym c.if-leg-segment.true) ∙ one_here l in
    let whole = ap (λ xs. count_at xs i l.entry) part.0 in
    let each = c.loop-record.invariant.counts l.entry (omega (arith, plan.1, short)) in
    record { fits = omega (arith, here, once, each, count_at_part rs (k + 1) i l.entry, whole, b.small part.1 i l.entry) }

pub loop-record-preserved : goal.loop-record-preserved
loop-record-preserved c =
    let rs = c.in_ok-part.part.now in
    let k = c.loop-record.record-index in
    let i = c.args.segment in
    let within = c.loop-record-test.true in
    let table = c.loop-record.table in
    let long = c.loop-record.invariant.long in
    let each = c.loop-record.invariant.counts in
    elim c.match-record.branch [
      | in-Some+then-leg-segment w ↦
          let l = w.in-Some.leg in
          let n = get_or table l.entry 0 + 1 in
          let part = c.in_ok-part.ensures in
          let b = c.args.self.now in
          let plan = leg_in_plan (shown_of b.plan) (get_or rs k no_record) l w.in-Some.is
          (ap (λ xs. in_plan (shown_of b.plan) (get_or xs k no_record)) part.0 ∙ b.legal part.1 k) in
          let short = b.plan.few_slots in
          let early : l.entry < most_slots = omega (arith, plan.1, short) in
          record {
            long = ap length w.table-is ∙ length-set table l.entry n ∙ long;
            counts = λ e below.
                let next = count_next rs k within i l w.in-Some.is e in
                ap (λ xs. get_or xs e 0) w.table-is
                ∙ ⊎_elim
                (λ same.
                let once = ap₂ (one l) (sym w.if-leg-segment.true) (sym same) ∙ one_here l in
                let written = get_or-set_same table l.entry n 0 (omega (arith, long, early)) in
                let was = each l.entry early in
                let moved = ap (count_at (take k rs) i) same in
                ap (λ x. get_or (set table l.entry n) x 0) (sym same) ∙ written
                ∙ omega (arith, next, once, was, moved))
                (λ apart.
                let none = one_elsewhere l i e (inr apart) in
                get_or-set_other table l.entry e n 0 (λ same. apart (sym same))
                ∙ omega (arith, each e below, next, none))
                (cases_eq l.entry e);
          }
      | in-Some+else-leg-segment w ↦ record {
        long = ap length w.table-is ∙ long;
        counts = λ e below.
            let next = count_next rs k within i w.in-Some.leg w.in-Some.is e in
            let apart = one_elsewhere w.in-Some.leg i e (inl w.if-leg-segment.false) in
            ap (λ xs. get_or xs e 0) w.table-is ∙ each e below ∙ omega (arith, next, apart);
      }
      | in_default w ↦ record {
        long = ap length w.table-is ∙ long;
        counts = λ e below.
            ap (λ xs. get_or xs e 0) w.table-is ∙ each e below ∙ sym (count_same rs k within i w.in_default.is e);
      }
    ]
