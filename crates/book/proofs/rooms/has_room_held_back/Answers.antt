use Rattle.std.proofs.Common.{◌≡◌, ℕ, ◌-◌, sym, ap, ◌∙◌, ap₂, arith}
use Rattle.book.specs.Loads.{load}
use Rattle.book.specs.Meaning.{road}
use Rattle.book.specs.Rooms.{room_below}
use Rattle.book.proofs.Rooming.{room_fails, room_held, room_more, room_none}
use Rattle.book.proofs.Segments.{segment_some}
use Rattle.book.proofs.rooms.has_room_held_back.Goals as goal

pub loop-init : goal.loop-init
loop-init g c = record {
  book = c.new-window.ensures.book;
  segment = c.new-window.ensures.segment;
  slot = omega arith;
  room = room_none _ _ _;
}

-- the window's load is that of the slot that it has come to
pub returns-then-window-limit : goal.returns-then-window-limit
returns-then-window-limit g c =
    let m = g.B.Book.meaning c.args.book.now in
    let l = c.args.leg in
    let w = c.loop.window in
    let at = c.loop.invariant in
    let loaded = w.loaded
    ∙ ap (λ b. load (g.B.Book.meaning b) w.segment w.slot) at.book
    ∙ ap₂ (load m) at.segment at.slot in
    let numbers = (segment_some m l.segment _ c.in-Some.ensures).1 in
    let slots = ap (λ (q : ℕ × ℕ × ℕ × ℕ). q.2) numbers in
    let count = ap (λ (q : ℕ × ℕ × ℕ × ℕ). q.3) numbers in
    λ known within.
    sym (room_held c.args.held m l known
    ∙ room_fails m l ((road m l.segment).count - c.args.held) (road m l.segment).slots c.loop.counter (omega (arith, slots))
    (omega (arith, loaded, count)))

pub loop-preserved : goal.loop-preserved
loop-preserved g c =
    let m = g.B.Book.meaning c.args.book.now in
    let w = c.loop.window in
    let at = c.loop.invariant in
    let loaded = w.loaded
    ∙ ap (λ b. load (g.B.Book.meaning b) w.segment w.slot) at.book
    ∙ ap₂ (load m) at.segment at.slot in
    record {
      book = ap (λ (b : denote.Bor.Bor _). b.now) c.advance.ensures.book ∙ at.book;
      segment = c.advance.ensures.segment ∙ at.segment;
      slot = omega (arith, c.advance.ensures.slot, at.slot);
      room = room_more m c.args.leg c.saturating_sub-limit.result c.loop.counter at.room (omega (arith, loaded));
    }

pub returns : goal.returns
returns g c =
    let m = g.B.Book.meaning c.args.book.now in
    let l = c.args.leg in
    let numbers = (segment_some m l.segment _ c.in-Some.ensures).1 in
    let slots = ap (λ (q : ℕ × ℕ × ℕ × ℕ). q.2) numbers in
    let count = ap (λ (q : ℕ × ℕ × ℕ × ℕ). q.3) numbers in
    let limit = c.saturating_sub-limit.ensures ∙ ap (λ n. n - c.args.held) count in
    let all : c.loop.counter ≡ (road m l.segment).slots = omega (arith, slots) in
    λ known within.
    sym (room_held c.args.held m l known ∙ sym (ap₂ (room_below m l) limit all) ∙ c.loop.invariant.room)
