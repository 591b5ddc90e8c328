use Rattle.std.proofs.Common.{refl}
use Rattle.std.proofs.Math.Seq.{map-set_same}
use Rattle.std.proofs.lemmas.List.{map-set}
use Rattle.search.proofs.arrivals.Arrivals.mark_settled.Goals as goal

pub returns-clause-best : goal.returns-clause-best
returns-clause-best c = map-set_same _ _ _ _ _ refl

pub returns-clause-settled : goal.returns-clause-settled
returns-clause-settled c = map-set _ _ _ _
