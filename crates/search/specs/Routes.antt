-- The legs of a route.
use Rattle.std.specs.Prelude.{List, drop}
use Rattle.book.specs.declared.legs.Leg.{Leg}
use Rattle.search.specs.declared.route.Route.{Route}

-- in their order
abbrev pub legs_of : Route → List Leg
legs_of r = drop r.first r.legs
