use Rattle.walks.proofs.Working.{worked_routes}
use Rattle.walks.proofs.laws.worked_routes_stand.Goals as goal

pub returns : goal.returns
returns c = worked_routes
