use Rattle.walks.proofs.Choosing.{chosen_unique, chosen_walk}
use Rattle.walks.proofs.Existence.{walk_chosen}
use Rattle.walks.proofs.Visiting.{chosen_segments, chosen_short, chosen_visits}
use Rattle.walks.proofs.laws.routes_stand.Goals as goal

pub returns : goal.returns
returns c =
    record {
      walks = λ m sound. chosen_walk m;
      earliest = λ m sound o t v legs chosen.
          let walk = chosen_walk m o t v legs chosen in
          (walk.0, walk.1, walk.2.least);
      unique = λ m sound. chosen_unique m;
      exists = λ m sound o t v. (
        λ some. walk_chosen m sound o t v some.0 some.1 some.2,
        λ some. let walk = chosen_walk m o t v some.0 some.1 in (walk.0, some.0, walk.1),
      );
      junctions = chosen_visits;
      segments = chosen_segments;
      short = chosen_short;
    }
