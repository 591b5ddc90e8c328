use Rattle.std.proofs.Common.{◌≡◌, ℕ, zero, suc, ◌+◌, ◌-◌, ◌<◌, ◌≤◌, List, length, get_or, take, drop, sum, sym, ap, ◌∙◌, add-one, arith}
use Rattle.std.proofs.lemmas.List.{get_or-drop, length-drop}
use Rattle.std.proofs.lemmas.List.Sums.{sum_by_more}
use Rattle.book.specs.Loads.{load_below}
use Rattle.book.specs.Rows.{entering}
use Rattle.book.proofs.Fitting.{none_entered}
use Rattle.book.proofs.Windows.{window_more}
use Rattle.book.proofs.rows.Row.entered_by.Goals as goal

-- where those that enter before `first` do not hold the slot, the next n entries are all that count
entries : (row : List ℕ) (u t first n : ℕ) → (0 < n → t < first + u) → load_below first (entering row) u t ≡ 0
    → first + n ≤ t + 1 → first + n ≤ length row
    → sum (take n (drop first row)) ≡ load_below (first + n) (entering row) u t
entries row u t first zero late none by_then within =
    sym (ap (λ k. load_below k (entering row) u t) (let same : first + 0 ≡ first = omega arith in same) ∙ none)
entries row u t first (suc n) late none by_then within =
    let held = late (omega arith) in
    let more = window_more (entering row) u (first + n) t (omega arith) (omega arith) in
    let next = rw add-one at (sum_by_more (λ x. x) (drop first row) n 0 (omega (arith, length-drop first row))) in
    let here : get_or (drop first row) n 0 ≡ entering row (first + n) = get_or-drop first row n 0 in
    let before = entries row u t first n (λ _. held) none (omega arith) (omega arith) in
    let one : first + suc n ≡ first + n + 1 = omega arith in
    rw (one, more) (omega (arith, before, next, here))

pub returns-clause-value : goal.returns-clause-value
returns-clause-value c =
    let row = c.args.self.now.entering.now in
    let u = c.args.self.now.slots in
    let t = c.args.slot in
    let first = c.min-first.result in
    let n = c.args.end - first in
    let from = c.saturating_sub.ensures in
    let end : first + n ≡ c.args.end = omega (arith, c.min-first.ensures) in
    c.total.ensures.value
    ∙ entries row u t first n (λ some. omega (arith, some, c.min-first.ensures))
    (none_entered row u first t (omega (arith, c.min-first.ensures)))
    (omega (arith, c.requires.by_then)) (omega (arith, c.requires.within))
    ∙ ap (λ k. load_below k (entering row) u t) end
