use Rattle.std.proofs.Common.{◌≡◌, ℕ, ◌+◌, ◌-◌, ◌<◌, sym, ap, ◌∙◌, ap₂, arith}
use Rattle.std.proofs.lemmas.Bool.{and_from, and_left, and_right}
use Rattle.book.specs.Loads.{admissible, load}
use Rattle.book.specs.Meaning.{road}
use Rattle.book.specs.Rooms.{room_below}
use Rattle.book.proofs.Deciding.{unknown_not_admitted}
use Rattle.book.proofs.Loading.{admitted_within}
use Rattle.book.proofs.Rooming.{admissible_held, room_fails, room_held, room_more, room_none}
use Rattle.book.proofs.Segments.{segment_none, segment_some}
use Rattle.book.proofs.Windows.{load_grows, load_slides}
use Rattle.book.proofs.books.Book.admissible_held_back.Goals as goal
use Rattle.book.proofs.books.Book.admissible_held_back.Goals.{in-Some-checked_sub, in_default-checked_sub}

pub returns-then-not-admissible : goal.returns-then-not-admissible
returns-then-not-admissible g c =
    let m = g.Self.Book.meaning c.args.self.now in
    let l = c.args.leg in
    sym (admissible_held c.args.held m l ∙ and_left (admissible m l) _ (sym c.if-not-admissible.ensures))

pub returns-in_default : goal.returns-in_default
returns-in_default g c =
    let m = g.Self.Book.meaning c.args.self.now in
    sym (unknown_not_admitted c.args.held m c.args.leg (segment_none m c.args.leg.segment c.in_default.ensures))

pub overflow_add-slot-end : goal.overflow_add-slot-end
overflow_add-slot-end g c =
    let b = c.args.self.now in
    let m = g.Self.Book.meaning b in
    let l = c.args.leg in
    let slots = ap (λ (q : ℕ × ℕ × ℕ × ℕ). q.2) (segment_some m l.segment _ c.in-Some.ensures).1 in
    let within = admitted_within m l (sym c.if-not-admissible.ensures) in
    let short = (g.met.Self.Book.sound b).plan_fits.few_slots in
    record { fits = omega (arith, slots, within, short) }

pub loop-slot-init : goal.loop-slot-init
loop-slot-init g c =
    let m = g.Self.Book.meaning c.args.self.now in
    let l = c.args.leg in
    let none : l.entry - l.entry ≡ 0 = omega arith in
    (c.load-load.ensures, ap (room_below m l c.saturating_sub-limit.result) none ∙ room_none m l c.saturating_sub-limit.result)

pub returns-then-load-limit : goal.returns-then-load-limit
returns-then-load-limit g c =
    let m = g.Self.Book.meaning c.args.self.now in
    let l = c.args.leg in
    let numbers = segment_some m l.segment _ c.in-Some.ensures in
    let slots = ap (λ (q : ℕ × ℕ × ℕ × ℕ). q.2) numbers.1 in
    let count = ap (λ (q : ℕ × ℕ × ℕ × ℕ). q.3) numbers.1 in
    let t = c.loop-slot.slot in
    let here : t ≡ l.entry + (t - l.entry) = omega arith in
    let full = room_fails m l ((road m l.segment).count - c.args.held) (road m l.segment).slots (t - l.entry)
    (omega (arith, slots))
    (omega (arith, count, c.loop-slot.invariant.0, ap (load m l.segment) here, c.saturating_sub-limit.ensures)) in
    sym (admissible_held c.args.held m l
    ∙ and_right (admissible m l) _ (room_held c.args.held m l numbers.0 ∙ full))

pub overflow_sub-load : goal.overflow_sub-load
overflow_sub-load g c =
    let b = c.args.self.now in
    let m = g.Self.Book.meaning b in
    let i = c.args.leg.segment in
    let t = c.loop-slot.slot in
    let numbers = segment_some m i _ c.in-Some.ensures in
    let slots = ap (λ (q : ℕ × ℕ × ℕ × ℕ). q.2) numbers.1 in
    let gone = c.in-Some-checked_sub.ensures in
    let slides = load_slides m (g.met.Self.Book.sound b) i numbers.0 t (omega (arith, gone.0, slots)) in
    let leaves = c.standing-in-Some-checked_sub.ensures ∙ ap (m.standing i) (gone.1 ∙ ap (λ u. t + 1 - u) slots) in
    omega (arith, slides, leaves, c.loop-slot.invariant.0)

pub loop-slot-preserved : goal.loop-slot-preserved
loop-slot-preserved g c =
    let b = c.args.self.now in
    let m = g.Self.Book.meaning b in
    let l = c.args.leg in
    let i = l.segment in
    let t = c.loop-slot.slot in
    let numbers = segment_some m i _ c.in-Some.ensures in
    let slots = ap (λ (q : ℕ × ℕ × ℕ × ℕ). q.2) numbers.1 in
    let here : t ≡ l.entry + (t - l.entry) = omega arith in
    let more : t + 1 - l.entry ≡ (t - l.entry) + 1 = omega arith in
    let below : load m i (l.entry + (t - l.entry)) < c.saturating_sub-limit.result =
    omega (arith, c.loop-slot.invariant.0, ap (load m i) here) in (
      elim c.match-checked_sub.branch [
        | in-Some-checked_sub a ↦
            let gone = a.in-Some-checked_sub.ensures in
            let slides = load_slides m (g.met.Self.Book.sound b) i numbers.0 t (omega (arith, gone.0, slots)) in
            let leaves = a.standing-in-Some-checked_sub.ensures ∙ ap (m.standing i) (gone.1 ∙ ap (λ u. t + 1 - u) slots) in
            omega (arith, a.load-is, slides, leaves, c.loop-slot.invariant.0)
        | in_default-checked_sub a ↦
            let short = a.in_default-checked_sub.ensures in
            let grows = load_grows m (g.met.Self.Book.sound b) i numbers.0 t (omega (arith, short, slots)) in
            omega (arith, a.load-is, grows, c.loop-slot.invariant.0)
      ],
      ap (room_below m l c.saturating_sub-limit.result) more
          ∙ room_more m l c.saturating_sub-limit.result (t - l.entry) c.loop-slot.invariant.1 below,
    )

pub returns : goal.returns
returns g c =
    let m = g.Self.Book.meaning c.args.self.now in
    let l = c.args.leg in
    let numbers = segment_some m l.segment _ c.in-Some.ensures in
    let slots : c.loop-slot.slot - l.entry ≡ (road m l.segment).slots =
    omega (arith, ap (λ (q : ℕ × ℕ × ℕ × ℕ). q.2) numbers.1) in
    let limit : c.saturating_sub-limit.result ≡ (road m l.segment).count - c.args.held =
    omega (arith, ap (λ (q : ℕ × ℕ × ℕ × ℕ). q.3) numbers.1, c.saturating_sub-limit.ensures) in
    let room = room_held c.args.held m l numbers.0
    ∙ sym (ap₂ (room_below m l) limit slots)
    ∙ c.loop-slot.invariant.1 in
    sym (admissible_held c.args.held m l
    ∙ and_from (admissible m l) _ (sym c.if-not-admissible.ensures) room)
