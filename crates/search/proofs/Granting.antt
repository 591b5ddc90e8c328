-- What the traced route is to the request.
use Rattle.std.proofs.Common.{◌<◌, List}
use Rattle.book.specs.Meaning.{Meaning, Sound}
use Rattle.book.specs.declared.legs.Leg.{Leg}
use Rattle.walks.specs.Walks.{Chosen}
use Rattle.walks.specs.declared.requests.Request.{Request}
use Rattle.walks.proofs.Choosing.{chosen_walk}
use Rattle.walks.proofs.Visiting.{chosen_short}
use Rattle.search.specs.Finds.{Granted}

pub traced_granted : (m : Meaning) → Sound m → (q : Request) (legs : List Leg) → q.origin < m.shown.junctions
    → Chosen m q.origin q.slot q.destination legs → Granted m q legs
traced_granted m sound q legs known chosen =
    let walk = chosen_walk m q.origin q.slot q.destination legs chosen in
    record {
      chosen = chosen;
      arrival = walk.0;
      walk = walk.1;
      earliest = λ b others other. walk.2.least b others other;
      short = chosen_short m sound q.origin q.slot q.destination legs known chosen;
    }
