use Rattle.std.proofs.Common.{◌≡◌, ℕ, cond, refl, rules, arith}
use Rattle.std.proofs.lemmas.Iterator.{YieldsList-from_map, YieldsList-from_range}
use Rattle.std.proofs.lemmas.Iterator.Adapters.{at_most_from_yields_List, fits_from_length}
use Rattle.std.proofs.lemmas.Iterator.Consumers.{sum_by_from_yields_List}
use Rattle.std.specs.List.{range_with_len}
use Rattle.book.specs.Loads.{holds, load_below}
use Rattle.layer_cases.specs.RowBook.{row_of}
use Rattle.layer_cases.proofs.row.RowBook.load.Goals as goal

pub sum-requires-clause-fits : goal.sum-requires-clause-fits
sum-requires-clause-fits c =
    let from : c.map.result.iter ≡ record { start = 0; end = 20 } = cc in
    fits_from_length _ _ 20 _ (at_most_from_yields_List (YieldsList-from_range 0 20 20 from refl) (omega arith))
    c.map.ensures.closure (omega arith) (λ x r q k. search rules)

pub returns : goal.returns
unfolding load_below
returns c =
    let m = row_of c.args.self.now in
    let u = c.args.self.now.slots in
    let t = c.args.slot in
    let h : ℕ → ℕ = λ e. cond (holds e u t) (m.standing 0 e) 0 in
    let from : c.map.result.iter ≡ record { start = 0; end = 20 } = cc in
    sum_by_from_yields_List h (range_with_len 0 20) _ c.sum.result c.sum.ensures.ran
    (YieldsList-from_map _ h (YieldsList-from_range 0 20 20 from refl) c.map.ensures.closure (λ x r q k. search rules))
