-- What a kept plan shows.
use Rattle.book.specs.Meaning.{Shown}
use Rattle.book.specs.Shown.{roads_of}
use Rattle.book.specs.declared.shown.ShownPlan.{ShownPlan}

abbrev pub shown_of : ShownPlan → Shown
shown_of p = record {
  horizon = p.horizon;
  junctions = p.junctions;
  roads = roads_of p.numbers.items;
}
