-- What a plan shows to a book: its sizes, and for each segment its two junctions, travel slots and critical count.
use Rattle.std.specs.Prelude.{List, map}
use Rattle.plan.specs.Content.{Content}
use Rattle.plan.specs.Critical.{critical}
use Rattle.plan.specs.Travel.{travel}
use Rattle.plan.specs.declared.parts.Segment.{Segment}
use Rattle.plan.specs.declared.parts.Settings.{Settings}
use Rattle.book.specs.Meaning.{Road, Shown}
use Rattle.book.specs.declared.numbers.SegmentNumbers.{SegmentNumbers}

abbrev pub road_in : Settings → Segment → Road
road_in s g = record { start = g.start; end = g.end; slots = travel s g; count = critical s g }

abbrev pub plan_shown : Content → Shown
plan_shown c = record {
  horizon = c.settings.horizon;
  junctions = c.settings.junctions;
  roads = map (road_in c.settings) c.segments;
}

-- the numbers that are kept of a segment, as a book shows them
abbrev pub road_of : SegmentNumbers → Road
road_of n = record { start = n.start; end = n.end; slots = n.slots; count = n.count }

abbrev pub roads_of : List SegmentNumbers → List Road
roads_of numbers = map road_of numbers
