use Rattle.std.proofs.Common.{◌<◌, length, ap, arith}
use Rattle.std.proofs.lemmas.Bool.Decides.{nat_tests}
use Rattle.book.specs.Meaning.{segments}
use Rattle.search.specs.Requests.{checks}
use Rattle.search.proofs.Checking.{checked}
use Rattle.search.proofs.requests.check_request.Goals as goal

pub returns-then-request-sizes : goal.returns-then-request-sizes
unfolding checks
returns-then-request-sizes g c =
    let junctions = ap (λ s. s.junctions) c.sizes-sizes.ensures in
    checked _ _ _ _ (grind (arith, nat_tests))

pub returns-then-request : goal.returns-then-request
unfolding checks
returns-then-request g c =
    let junctions = ap (λ s. s.junctions) c.sizes-sizes.ensures in
    checked _ _ _ _ (grind (arith, nat_tests))

pub returns-then-request-sizes-3 : goal.returns-then-request-sizes-3
unfolding checks
returns-then-request-sizes-3 g c =
    let junctions = ap (λ s. s.junctions) c.sizes-sizes.ensures in
    let horizon = ap (λ s. s.horizon) c.sizes-sizes.ensures in
    checked _ _ _ _ (grind (arith, nat_tests))

pub returns-then-scratch-sizes : goal.returns-then-scratch-sizes
unfolding checks
returns-then-scratch-sizes g c =
    let junctions = ap (λ s. s.junctions) c.sizes-sizes.ensures in
    let horizon = ap (λ s. s.horizon) c.sizes-sizes.ensures in
    let segments = ap (λ s. s.segments) c.sizes-sizes.ensures in
    checked _ _ _ _ (grind (arith, nat_tests))

pub returns : goal.returns
unfolding checks
returns g c =
    let junctions = ap (λ s. s.junctions) c.sizes-sizes.ensures in
    let horizon = ap (λ s. s.horizon) c.sizes-sizes.ensures in
    let few = ap (λ s. s.segments) c.sizes-sizes.ensures in
    let enough : segments (g.B.Book.meaning c.args.book.now) < length c.args.scratch.now =
    omega (arith, few, c.if-scratch-sizes.false) in
    checked _ _ _ _ (grind (arith, nat_tests))
