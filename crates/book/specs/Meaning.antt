-- What a book means: the plan that it shows, how many legs stand at each segment and entry, and which legs it bars
-- whatever the load.
use Rattle.std.specs.Prelude.{◌≡◌, ℕ, ◌+◌, ◌<◌, ◌≤◌, Bool, cond, ◌&&◌, ◌≢◌, List, length, Option, ◌==◌, slice_index_or}
use Rattle.std.specs.List.{slice_get}
use Rattle.std.specs.Option.{option_map}
use Rattle.plan.specs.Limits.{most_count, most_junctions, most_legs, most_segments, most_slots, most_travel}
use Rattle.book.specs.Below.{sum_below}
use Rattle.book.specs.declared.legs.Leg.{Leg}
use Rattle.book.specs.declared.legs.Sizes.{Sizes}

-- a segment as a book shows it: its two junctions, its travel slots and its critical count
pub record Road : Type 0 where
  pub start : ℕ
  pub end : ℕ
  pub slots : ℕ
  pub count : ℕ

pub record Shown : Type 0 where
  pub horizon : ℕ
  pub junctions : ℕ
  pub roads : List Road

pub record Meaning : Type 0 where
  pub shown : Shown
  pub standing : ℕ → ℕ → ℕ
  pub bars : ℕ → ℕ → Bool

abbrev pub horizon : Meaning → ℕ
horizon m = m.shown.horizon

abbrev pub segments : Meaning → ℕ
segments m = length m.shown.roads

abbrev pub no_road : Road
no_road = record { start = 0; end = 0; slots = 0; count = 0 }

abbrev pub road : Meaning → ℕ → Road
road m i = slice_index_or m.shown.roads i no_road

-- what the questions for the sizes and for a segment answer
abbrev pub sizes_of : Meaning → Sizes
sizes_of m = record { horizon = horizon m; junctions = m.shown.junctions; segments = segments m }

abbrev pub four : Road → ℕ × ℕ × ℕ × ℕ
four r = (r.start, r.end, r.slots, r.count)

abbrev pub segment_of : Meaning → ℕ → Option (ℕ × ℕ × ℕ × ℕ)
segment_of m i = option_map four (slice_get m.shown.roads i)

-- how many legs stand in all
unfoldable pub total : Meaning → ℕ
total m = sum_below (segments m) (λ i. sum_below (horizon m) (m.standing i))

-- how often the leg of segment i and entry e is l: once or not at all
abbrev pub one : Leg → ℕ → ℕ → ℕ
one l i e = cond (l.segment == i && l.entry == e) 1 0

-- the same book with one leg more
abbrev pub plus : Meaning → Leg → Meaning
plus m l = record { shown = m.shown; standing = λ i e. m.standing i e + one l i e; bars = m.bars }

-- ---- what every book keeps

pub record RoadFits (junctions : ℕ) (r : Road) : Type 0 where
  pub start_known : r.start < junctions
  pub end_known : r.end < junctions
  pub no_loop : r.start ≢ r.end
  pub takes_a_slot : 1 ≤ r.slots
  pub few_slots : r.slots ≤ most_travel
  pub small_count : r.count ≤ most_count

pub record ShownFits (s : Shown) : Type 0 where
  pub some_slot : 1 ≤ s.horizon
  pub few_slots : s.horizon ≤ most_slots
  pub two_junctions : 2 ≤ s.junctions
  pub few_junctions : s.junctions ≤ most_junctions
  pub few_segments : length s.roads ≤ most_segments
  pub roads_fit : (i : ℕ) → i < length s.roads → RoadFits s.junctions (slice_index_or s.roads i no_road)

-- the plan is in range, no leg stands outside it, and no more legs stand than a book may have
pub record Sound (m : Meaning) : Type 0 where
  pub plan_fits : ShownFits m.shown
  pub known_segments : (i e : ℕ) → segments m ≤ i → m.standing i e ≡ 0
  pub known_entries : (i e : ℕ) → horizon m ≤ e → m.standing i e ≡ 0
  pub few_legs : total m ≤ most_legs
