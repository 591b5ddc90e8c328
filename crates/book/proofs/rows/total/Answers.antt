use Rattle.std.proofs.Common.{◌≡◌, ◌≤◌, sum, arith, rules}
use Rattle.std.proofs.lemmas.List.Elements.{All-from_get_or}
use Rattle.std.proofs.lemmas.List.Sums.{sum_by-le}
use Rattle.book.proofs.rows.total.Goals as goal

pub returns-clause-bound : goal.returns-clause-bound
returns-clause-bound c =
    let counts = c.args.counts.now in
    let value : c.sum.result ≡ sum counts = search rules in
    let each = All-from_get_or (λ n. n ≤ 255) counts 0
    (λ i _. let small = (c.type_inv.counts i).fits in omega (arith, small)) in
    omega (arith, value, sum_by-le (λ n. n) 255 counts each)
