use Rattle.std.proofs.Common.{◌≡◌, ℕ, ◌+◌, ◌-◌, sym, refl, ap, ◌∙◌, rules, arith}
use Rattle.std.proofs.lemmas.Iterator.{YieldsList-from_map, YieldsList-from_range}
use Rattle.std.proofs.lemmas.Iterator.Consumers.{fits_by_from_yields_list, sum_by_from_yields_List}
use Rattle.std.specs.List.{range_with_len, sum_by}
use Rattle.book.specs.Loads.{load, load_below}
use Rattle.book.specs.Meaning.{Meaning, Sound, road}
use Rattle.book.proofs.Segments.{segment_none, segment_some}
use Rattle.book.proofs.Windows.{load_by_then, load_small, load_unknown, window_first, window_sum}
use Rattle.book.proofs.books.Book.load.Goals as goal

-- the standing numbers of the entries from `first` up to the slot
standing_sum : (m : Meaning) (i t u first : ℕ) → Sound m → u ≡ (road m i).slots → first ≡ t + 1 - u
    → sum_by (m.standing i) (range_with_len first (t + 1 - first)) ≡ load m i t
standing_sum m i t u first sound slots is =
    let x = (road m i).slots in
    let none = window_first (m.standing i) x first t (omega arith) in
    let all = window_sum (m.standing i) x first (t + 1 - first) t (omega arith) (omega arith) in
    let end = ap (λ n. load_below n (m.standing i) x t) (let to : first + (t + 1 - first) ≡ t + 1 = omega arith in to) in
    omega (arith, none, all, end, load_by_then m i t sound)

pub returns-in_default : goal.returns-in_default
returns-in_default g c =
    let m = g.Self.Book.meaning c.args.self.now in
    sym (load_unknown m c.args.segment c.args.slot (segment_none m c.args.segment c.in_default.ensures))

pub sum-requires-clause-fits : goal.sum-requires-clause-fits
sum-requires-clause-fits g c =
    let b = c.args.self.now in
    let m = g.Self.Book.meaning b in
    let t = c.args.slot in
    let first = c.saturating_sub.result in
    let h = m.standing c.args.segment in
    let numbers = segment_some m c.args.segment _ c.in-Some.ensures in
    let all = standing_sum m c.args.segment t c.in-Some.slots first (g.met.Self.Book.sound b)
    (ap (λ (q : ℕ × ℕ × ℕ × ℕ). q.2) numbers.1) (omega (arith, c.saturating_sub.ensures)) in
    let from : c.map.result.iter ≡ record { start = first; end = t + 1 } = cc in
    fits_by_from_yields_list h (range_with_len first (t + 1 - first)) _ _
    (YieldsList-from_map _ h
    (YieldsList-from_range first (t + 1) (t + 1 - first) from refl)
    c.map.ensures.closure (λ x r q k. search rules))
    (omega (arith, all, load_small m (g.met.Self.Book.sound b) c.args.segment numbers.0 t))

pub returns : goal.returns
returns g c =
    let b = c.args.self.now in
    let m = g.Self.Book.meaning b in
    let t = c.args.slot in
    let first = c.saturating_sub.result in
    let h = m.standing c.args.segment in
    let numbers = segment_some m c.args.segment _ c.in-Some.ensures in
    let from : c.map.result.iter ≡ record { start = first; end = t + 1 } = cc in
    sum_by_from_yields_List h (range_with_len first (t + 1 - first)) _ c.sum.result c.sum.ensures.ran
    (YieldsList-from_map _ h
    (YieldsList-from_range first (t + 1) (t + 1 - first) from refl)
    c.map.ensures.closure (λ x r q k. search rules))
    ∙ standing_sum m c.args.segment t c.in-Some.slots first (g.met.Self.Book.sound b)
    (ap (λ (q : ℕ × ℕ × ℕ × ℕ). q.2) numbers.1) (omega (arith, c.saturating_sub.ensures))
