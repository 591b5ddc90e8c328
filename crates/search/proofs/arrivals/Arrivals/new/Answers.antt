use Rattle.std.proofs.Common.{false, None, rules}
use Rattle.std.proofs.lemmas.List.Elements.{All-replicate}
use Rattle.search.specs.Arrivals.{near}
use Rattle.search.proofs.arrivals.Arrivals.new.Goals as goal

pub invariant_of-result-clause-near : goal.invariant_of-result-clause-near
invariant_of-result-clause-near c =
    All-replicate near 64 (record { slot = None; settled = false }) (search rules)
