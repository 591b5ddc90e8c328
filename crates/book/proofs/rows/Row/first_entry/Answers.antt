use Rattle.std.proofs.Common.{◌≡◌, ◌+◌, ◌*◌, ◌<◌, ◌≤◌, length, sym, subst, arith}
use Rattle.book.specs.Loads.{load_below}
use Rattle.book.specs.Rows.{NoneFits, Open, entering}
use Rattle.book.proofs.Fitting.{first_fit, load_enters, load_leaves, load_stays, none_fits_after}
use Rattle.book.proofs.Fitting.{none_fits_on, none_fits_yet, open_more, open_yet}
use Rattle.book.proofs.rows.Row.first_entry.Goals as goal
use Rattle.book.proofs.rows.Row.first_entry.Goals.{then-slot-travel, else-slot-travel}
use Rattle.book.proofs.rows.Row.first_entry.Goals.{then-load-limit+else-first-travel, else-load-limit+else-slot-first}
use Rattle.book.proofs.rows.Row.first_entry.Goals.{then-travel-eq0-via-then-travel-eq0}
use Rattle.book.proofs.rows.Row.first_entry.Goals.{then-travel-eq0-via-else-travel-eq0+then-from-end}

pub returns-then-travel-eq0 : goal.returns-then-travel-eq0
returns-then-travel-eq0 c some =
    let row = c.args.self.now.entering.now in
    elim c.then-travel-eq0.branch [
      | then-travel-eq0-via-then-travel-eq0 w ↦ absurd (omega (arith, some, w.if-travel-eq0.true))
      | then-travel-eq0-via-else-travel-eq0+then-from-end w ↦
          none_fits_after row c.args.self.now.slots c.args.self.now.limit c.args.from c.args.to c.args.from
          c.args.from
          (none_fits_yet row c.args.self.now.slots c.args.self.now.limit c.args.from)
          (omega arith) (omega (arith, c.min-end.ensures, w.if-from-end.true))
    ]

pub loop-slot-init : goal.loop-slot-init
loop-slot-init c = (
  c.entered_by-load.ensures.value,
  c.entered_by-load.ensures.bound,
  omega arith,
  omega arith,
  omega arith,
  none_fits_yet _ _ _ _,
  open_yet _ _ _ _,
)

pub returns-then-first-travel : goal.returns-then-first-travel
returns-then-first-travel c some =
    let row = c.args.self.now.entering.now in
    let u = c.args.self.now.slots in
    let slot = c.loop-slot.slot in
    let load = load_enters row u some slot (omega (arith, c.min-end.ensures)) in
    none_fits_after row u c.args.self.now.limit c.args.from c.args.to (slot + 1) c.min-end.result
    (none_fits_on row u c.args.self.now.limit c.args.from c.loop-slot.first slot c.loop-slot.invariant.5
    c.loop-slot.invariant.4
    (omega (arith, load, c.loop-slot.invariant.0)))
    (omega arith) (omega (arith, c.min-end.ensures))

pub returns-then-slot-first : goal.returns-then-slot-first
returns-then-slot-first c some =
    let row = c.args.self.now.entering.now in
    let u = c.args.self.now.slots in
    let slot = c.loop-slot.slot in
    let first = c.loop-slot.first in
    let load = load_enters row u some slot (omega (arith, c.min-end.ensures)) in
    let room = open_more row u c.args.self.now.limit first slot c.loop-slot.invariant.6
    (omega (arith, load, c.loop-slot.invariant.0)) in
    let end : slot + 1 ≡ first + u = c.if-slot-first.true in
    first_fit row u c.args.self.now.limit c.args.from c.args.to first c.loop-slot.invariant.5 c.loop-slot.invariant.2
    (omega (arith, end, c.min-end.ensures)) (omega (arith, end, c.min-end.ensures))
    (subst (Open row u c.args.self.now.limit first) end room)

pub overflow_sub-load-then-slot-travel : goal.overflow_sub-load-then-slot-travel
overflow_sub-load-then-slot-travel c =
    let row = c.args.self.now.entering.now in
    let u = c.args.self.now.slots in
    let slot = c.loop-slot.slot in
    let some : 1 ≤ u = omega (arith, c.if-travel-eq0.false) in
    let within : slot < length row = omega (arith, c.min-end.ensures) in
    omega (
      arith,
      c.loop-slot.invariant.0,
      load_enters row u some slot within,
      load_leaves row u some slot within c.if-slot-travel.true,
    )

pub loop-slot-preserved : goal.loop-slot-preserved
loop-slot-preserved c =
    let row = c.args.self.now.entering.now in
    let u = c.args.self.now.slots in
    let limit = c.args.self.now.limit in
    let from = c.args.from in
    let slot = c.loop-slot.slot in
    let some : 1 ≤ u = omega (arith, c.if-travel-eq0.false) in
    let within : slot < length row = omega (arith, c.min-end.ensures) in
    let enters = load_enters row u some slot within in
    let was = c.loop-slot.invariant.0 in
    let most = c.loop-slot.invariant.1 in
    let next : c.if-slot-travel.load ≡ load_below (slot + 1) (entering row) u (slot + 1) =
    elim c.if-slot-travel.branch [
      | then-slot-travel w ↦
          omega (arith, enters, was, w.load-is, load_leaves row u some slot within w.if-slot-travel.true)
      | else-slot-travel w ↦
          omega (arith, enters, was, w.load-is, load_stays row u some slot within w.if-slot-travel.false)
    ] in
    let bound : c.if-slot-travel.load ≤ 255 * (slot + 1) =
    elim c.if-slot-travel.branch [
      | then-slot-travel w ↦ omega (arith, most, w.load-is)
      | else-slot-travel w ↦ omega (arith, most, w.load-is)
    ] in
    elim c.if-load-limit.branch [
      | then-load-limit+else-first-travel w ↦
          let none = none_fits_on row u limit from c.loop-slot.first slot c.loop-slot.invariant.5
          c.loop-slot.invariant.4
          (omega (arith, enters, was, w.if-load-limit.true)) in (
            next,
            bound,
            omega (arith, w.first-is, c.loop-slot.invariant.2, c.loop-slot.invariant.3),
            omega (arith, w.first-is),
            omega (arith, w.first-is, some),
            subst (NoneFits row u limit from) (sym w.first-is) none,
            subst (λ e. Open row u limit e (slot + 1)) (sym w.first-is) (open_yet row u limit (slot + 1)),
          )
      | else-load-limit+else-slot-first w ↦
          let room = open_more row u limit c.loop-slot.first slot c.loop-slot.invariant.6
          (omega (arith, enters, was, w.if-load-limit.false)) in (
            next,
            bound,
            omega (arith, w.first-is, c.loop-slot.invariant.2),
            omega (arith, w.first-is, c.loop-slot.invariant.3),
            omega (arith, w.first-is, c.loop-slot.invariant.4, w.if-slot-first.false),
            subst (NoneFits row u limit from) (sym w.first-is) c.loop-slot.invariant.5,
            subst (λ e. Open row u limit e (slot + 1)) (sym w.first-is) room,
          )
    ]

pub returns : goal.returns
returns c some =
    none_fits_after c.args.self.now.entering.now c.args.self.now.slots c.args.self.now.limit c.args.from c.args.to
    c.loop-slot.first c.loop-slot.slot
    c.loop-slot.invariant.5 c.loop-slot.invariant.4 (omega (arith, c.loop-slot-test.false, c.min-end.ensures))
