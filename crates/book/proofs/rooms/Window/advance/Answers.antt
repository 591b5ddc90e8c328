use Rattle.std.proofs.Common.{◌+◌, ◌-◌, ap, ◌∙◌, arith}
use Rattle.book.proofs.Windows.{load_grows, load_slides, load_small}
use Rattle.book.proofs.rooms.Window.advance.Goals as goal
use Rattle.book.proofs.rooms.Window.advance.Goals.{in-Some, in_default}

pub overflow_add-load : goal.overflow_add-load
overflow_add-load g c =
    let w = c.args.self.now in
    let m = g.B.Book.meaning w.book.now in
    let small = load_small m (g.met.B.Book.sound w.book.now) w.segment w.known w.slot in
    let loaded = w.loaded in
    omega (arith, small, loaded)

pub overflow_sub-load : goal.overflow_sub-load
overflow_sub-load g c =
    let w = c.args.self.now in
    let m = g.B.Book.meaning w.book.now in
    let loaded = w.loaded in
    let travel = w.travel in
    let gone = c.in-Some.ensures in
    let slides = load_slides m (g.met.B.Book.sound w.book.now) w.segment w.known w.slot (omega (arith, gone.0, travel)) in
    let leaves = c.standing-in-Some.ensures ∙ ap (m.standing w.segment) (gone.1 ∙ ap (λ u. w.slot + 1 - u) travel) in
    omega (arith, slides, leaves, loaded)

pub invariant_of-self : goal.invariant_of-self
invariant_of-self g c =
    let w = c.args.self.now in
    let m = g.B.Book.meaning w.book.now in
    let loaded = w.loaded in
    let travel = w.travel in
    record {
      known = w.known;
      travel = w.travel;
      loaded = elim c.match-checked_sub.branch [
        | in-Some b ↦
            let gone = b.in-Some.ensures in
            let slides = load_slides m (g.met.B.Book.sound w.book.now) w.segment w.known w.slot (omega (arith, gone.0, travel)) in
            let leaves = b.standing-in-Some.ensures ∙ ap (m.standing w.segment) (gone.1 ∙ ap (λ u. w.slot + 1 - u) travel) in
            omega (arith, b.load-is, slides, leaves, loaded)
        | in_default b ↦
            let short = b.in_default.ensures in
            let grows = load_grows m (g.met.B.Book.sound w.book.now) w.segment w.known w.slot (omega (arith, short, travel)) in
            omega (arith, b.load-is, grows, loaded)
      ];
    }
