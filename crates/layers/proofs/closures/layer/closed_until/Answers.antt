use Rattle.std.proofs.Common.{◌≡◌, true, false, subst, rules}
use Rattle.std.proofs.lemmas.Iterator.{YieldsList-from_slice, first_from_find}
use Rattle.book.specs.Layered.{closed_by}
use Rattle.layers.specs.Closures.{ClosedUntil}
use Rattle.layers.proofs.Closed.{bars, until_told}
use Rattle.layers.proofs.closures.layer.closed_until.Goals as goal

pub returns : goal.returns
returns c =
    let ks = c.args.closures.now in
    let i = c.args.leg.segment in
    let u = c.args.slots in
    let e = c.args.leg.entry in
    let told = until_told _ ks i u e c.find.result
    (first_from_find _ _ c.find.result (λ k. bars i u e k ≡ true) (λ k. bars i u e k ≡ false) c.find.ensures.ran
    (YieldsList-from_slice ks cc)
    (λ x q k. search rules)
    (λ x q k. search rules)) in
    subst (ClosedUntil (closed_by ks i u) e) (search rules) told
