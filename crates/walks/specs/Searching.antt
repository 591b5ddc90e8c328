-- The state of a search from junction o at slot t: the table `best` of the best slots so far, the table `settled` of
-- the settled junctions, and the labels q that wait in the queue.
use Rattle.std.specs.Prelude.{◌≡◌, ℕ, ◌+◌, ◌<◌, ◌≤◌, Bool, true, false, not, ◌&&◌, ◌||◌, ◌⊎◌, List, length, ◌==◌, nat_le}
use Rattle.std.specs.List.{ContainsAt as Has, AllByRecursion}
use Rattle.book.specs.Meaning.{Meaning, horizon, segments}
use Rattle.book.specs.declared.legs.Leg.{Leg}
use Rattle.walks.specs.Count.{count}
use Rattle.walks.specs.Labels.{at, done, far, label}
use Rattle.walks.specs.Relaxed.{Enough}
use Rattle.walks.specs.Walks.{Earliest, SomeWalk, Walk, from}
use Rattle.queue_client.specs.declared.label.Label.{Label}

-- ---- segments that are yet to be relaxed

-- segment i starts at v, and its number is k or more
abbrev pub goes_out : Meaning → ℕ → ℕ → ℕ → Bool
goes_out m v k i = from m i == v && nat_le k i

-- segment i is yet to be relaxed: its start is not settled, or is v, whose segments below number k are relaxed
abbrev pub pending : Meaning → List Bool → ℕ → ℕ → ℕ → Bool
pending m settled v k i = not (done settled (from m i)) || goes_out m v k i

-- how many segments from number k on start at v
abbrev pub outgoing : Meaning → ℕ → ℕ → ℕ
outgoing m v k = count (segments m) (goes_out m v k)

-- how many segments are yet to be relaxed
abbrev pub pendings : Meaning → List Bool → ℕ → ℕ → ℕ
pendings m settled v k = count (segments m) (pending m settled v k)

-- ---- the invariant

-- a label that waits when the search has come to slot d: it is not behind the search, nor ahead of the table
pub record Ahead (m : Meaning) (best : List ℕ) (d : ℕ) (x : Label) : Type 0 where
  pub later : d ≤ x.slot
  pub not_far : x.slot < far
  pub known : x.junction < m.shown.junctions
  pub best_by : at best x.junction ≤ x.slot

-- the search has come to slot d, and settles v, whose segments below number k are relaxed: a slot in the table is that
-- of a walk; a settled junction has one up to d; any other that has one waits with it; and no segment that is not
-- pending brings its end a better one
pub record Searching (m : Meaning) (o t : ℕ) (best : List ℕ) (settled : List Bool) (q : List Label)
    (d v k : ℕ) : Type 0 where
  pub best_long : m.shown.junctions ≤ length best
  pub settled_long : m.shown.junctions ≤ length settled
  pub slot_low : d < far
  pub origin : at best o ≤ t
  pub reached : (w : ℕ) → w < m.shown.junctions
      → (at best w ≡ far) ⊎ ((legs : List Leg) × Walk m o t w (at best w) legs)
  pub behind : (w : ℕ) → w < m.shown.junctions → done settled w ≡ true → at best w ≤ d
  pub waiting : (w : ℕ) → w < m.shown.junctions → done settled w ≡ false → at best w < far
      → Has q (label (at best w) w)
  pub ahead : AllByRecursion (Ahead m best d) q
  pub relaxed : (i : ℕ) → i < segments m → pending m settled v k i ≡ false → Enough m i best

-- and v is settled, with slot d in the table
pub record Settling (m : Meaning) (o t : ℕ) (best : List ℕ) (settled : List Bool) (q : List Label)
    (d v k : ℕ) : Type 0 where
  pub searching : Searching m o t best settled q d v k
  pub now : done settled v ≡ true
  pub here : at best v ≡ d

-- every search that settles v goes on from its segment k to its segment l, with at most one label more for each segment
-- that is pending no more
abbrev pub Goes : Meaning → ℕ → ℕ → List ℕ → List Label → ℕ → List ℕ → List Label → Type 0
Goes m v k best q l after p =
    (o t d : ℕ) (settled : List Bool)
    → Settling m o t best settled q d v k
    → Settling m o t after settled p d v l
    × (length p + pendings m settled v l ≤ length q + pendings m settled v k)

-- between two junctions: how many labels wait, and how many more may come
abbrev pub remaining : Meaning → List Bool → List Label → ℕ
remaining m settled q = length q + pendings m settled 0 (segments m)

-- between two junctions the labels of q wait, and the queue has room for those to come
pub record Waits (m : Meaning) (o t : ℕ) (best : List ℕ) (settled : List Bool) (q : List Label)
    (room : ℕ) : Type 0 where
  pub slot : ℕ
  pub searching : Searching m o t best settled q slot 0 (segments m)
  pub fits : remaining m settled q ≤ room

-- ---- the end

-- the table holds E of every junction, or `far` where no walk leads
pub record Solved (m : Meaning) (o t : ℕ) (best : List ℕ) : Type 0 where
  pub bounded : (w : ℕ) → w < m.shown.junctions → at best w ≤ far
  pub earliest : (w : ℕ) → w < m.shown.junctions → at best w < far → Earliest m o t w (at best w)
  pub unreached : (w : ℕ) → w < m.shown.junctions → at best w ≡ far → SomeWalk m o t w → ⊥

-- every search, from whatever origin and slot, that stands at best, settled and q ends with the table `after`
abbrev pub Solves : Meaning → List ℕ → List Bool → List Label → ℕ → List ℕ → Type 0
Solves m best settled q room after =
    (o t : ℕ) → o < m.shown.junctions → t < horizon m
    → Waits m o t best settled q room → Solved m o t after
