use Rattle.std.proofs.Common.{◌≡◌, ℕ, ◌<◌, true, not, ltb, length, get_or, sym, ap, ◌∙◌, arith}
use Rattle.std.proofs.lemmas.Bool.{leb-true}
use Rattle.std.proofs.lemmas.Bool.Decides.{nat_tests}
use Rattle.book.specs.Bottom.{no_legs}
use Rattle.book.specs.ShownPlan.{shown_of}
use Rattle.grid_book.specs.Grid.{bytes_of, suffices}
use Rattle.grid_book.proofs.Cells.{counts_none, filled, grid_none}
use Rattle.grid_book.proofs.grid.GridBook.new.Goals as goal
use Rattle.grid_book.proofs.grid.GridBook.new.Goals.{then-bytes-memory, else-bytes-memory}

pub invariant_of-result : goal.invariant_of-result
invariant_of-result c =
    let s = shown_of c.new.result in
    let memory = c.if-bytes-memory.memory in
    let bytes = c.grid_bytes-bytes.ensures in
    let same = ap bytes_of c.new.ensures in
    let cleared : suffices s memory ≡ true → (k : ℕ) → k < bytes_of s → get_or memory k 0 ≡ 0 =
    elim c.if-bytes-memory.branch [
      | then-bytes-memory w ↦ λ _ k below.
          filled _ _ _ _ (w.fill.ensures.after (λ y is. is)) w.memory-is w.if-bytes-memory.true k
          (omega (arith, bytes, same, below))
      | else-bytes-memory w ↦ λ enough.
          let suffice = leb-true (bytes_of s) (length memory) enough in
          absurd (omega (arith, suffice, ap length w.memory-is, w.if-bytes-memory.false, bytes, same))
    ] in
    record { counted = sym (counts_none s memory cleared); few = omega arith }

pub returns-clause-meaning : goal.returns-clause-meaning
returns-clause-meaning c =
    let s = shown_of c.new.result in
    let memory = c.if-bytes-memory.memory in
    let bytes = c.grid_bytes-bytes.ensures in
    let same = ap bytes_of c.new.ensures in
    let long = c.if-bytes-memory.auto.memory in
    let cleared : suffices s memory ≡ true → (k : ℕ) → k < bytes_of s → get_or memory k 0 ≡ 0 =
    elim c.if-bytes-memory.branch [
      | then-bytes-memory w ↦ λ _ k below.
          filled _ _ _ _ (w.fill.ensures.after (λ y is. is)) w.memory-is w.if-bytes-memory.true k
          (omega (arith, bytes, same, below))
      | else-bytes-memory w ↦ λ enough.
          let suffice = leb-true (bytes_of s) (length memory) enough in
          absurd (omega (arith, suffice, long, w.if-bytes-memory.false, bytes, same))
    ] in
    let short : not (suffices s memory) ≡ ltb (length c.args.memory.now) (bytes_of s) = grind (arith, nat_tests, long) in
    grid_none s memory cleared ∙ ap (no_legs s) short
    ∙ ap (λ x. no_legs x (ltb (length c.args.memory.now) (bytes_of x))) c.new.ensures
