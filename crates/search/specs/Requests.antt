-- Which requests can be searched for, and by which refusal the others are turned down.
use Rattle.std.specs.Prelude.{◌≡◌, ℕ, ◌<◌, Bool, cond, ◌&&◌, ◌≢◌, Ok, Err, Result, ◌==◌, nat_lt}
use Rattle.plan.specs.declared.refusals.Refusal.{Refusal}
use Rattle.plan.specs.declared.refusals.Refusal.TheVariants as refusal
use Rattle.book.specs.Meaning.{Meaning, horizon, segments}
use Rattle.walks.specs.declared.requests.Request.{Request}

abbrev pub junctions_known : Meaning → Request → Bool
junctions_known m q = nat_lt q.origin m.shown.junctions && nat_lt q.destination m.shown.junctions

-- 11 where a junction is unknown, else 12 where origin and destination are equal, else 13 where the slot is not below the
-- horizon, else 14 where the scratch has fewer labels than segments + 1
unfoldable pub checks : Meaning → Request → ℕ → Result (Unit {0}) Refusal
checks m q room =
    cond (junctions_known m q)
    (cond (q.origin == q.destination) (Err refusal.OriginIsDestination)
    (cond (nat_lt q.slot (horizon m))
    (cond (nat_lt (segments m) room) (Ok tt) (Err refusal.ScratchTooSmall))
    (Err refusal.SlotPastHorizon)))
    (Err refusal.JunctionUnknown)

-- what a request that passes has
pub record Askable (m : Meaning) (q : Request) (room : ℕ) : Type 0 where
  pub origin_known : q.origin < m.shown.junctions
  pub destination_known : q.destination < m.shown.junctions
  pub apart : q.origin ≢ q.destination
  pub early : q.slot < horizon m
  pub enough : segments m < room

-- a request passes exactly where it has that
pub record Checked (m : Meaning) (q : Request) (room : ℕ) (r : Result (Unit {0}) Refusal) : Type 0 where
  pub answer : r ≡ checks m q room
  pub passes : Askable m q room → r ≡ Ok tt
  pub passed : r ≡ Ok tt → Askable m q room
