-- The loop that relaxes the segments which start at a junction.
use Rattle.std.proofs.Common.{◌≡◌, ℕ, ◌+◌, ◌<◌, ◌≤◌, ◌≢◌, List, length, sym, subst, subst₂, arith}
use Rattle.queue.specs.Queue.{held, room}
use Rattle.queue.specs.declared.Queue.{Queue}
use Rattle.book.specs.Meaning.{Meaning, Sound, segments}
use Rattle.walks.specs.Queues.{Keeps}
use Rattle.walks.specs.Relaxed.{Relaxed}
use Rattle.walks.specs.Searching.{Goes, outgoing}
use Rattle.walks.specs.Walks.{from}
use Rattle.queue_client.specs.declared.label.Label.{Label}
use Rattle.walks.proofs.Pending.{outgoing_passed, outgoing_relaxed}
use Rattle.walks.proofs.Queues.{keeps_none, keeps_on}
use Rattle.walks.proofs.Relaxing.{goes_none, goes_on, goes_past, goes_relaxed, relaxed_length}

-- from the table `first` and the queue `begun` the loop has come to segment k, the table best and the queue
pub record Turn (m : Meaning) (v : ℕ) (first : List ℕ) (begun : Queue Label) (k : ℕ) (best : List ℕ)
    (queue : Queue Label) : Type 0 where
  pub keeps : Keeps begun queue
  pub fits : length (held queue) + outgoing m v k ≤ room begun
  pub goes : Goes m v 0 first (held begun) k best (held queue)

pub turn_begins : (m : Meaning) (v : ℕ) (best : List ℕ) (queue : Queue Label)
    → length (held queue) + outgoing m v 0 ≤ room queue → Turn m v best queue 0 best queue
turn_begins m v best queue fits =
    record { keeps = keeps_none queue; fits = fits; goes = goes_none m v 0 best (held queue) }

module _ {m : Meaning} {v : ℕ} {first : List ℕ} {begun : Queue Label} {k : ℕ} {best : List ℕ} {queue : Queue Label}
    (turn : Turn m v first begun k best queue) where
  pub turn_at : {same_best : List ℕ} {same_queue : Queue Label}
      → same_best ≡ best → same_queue ≡ queue → Turn m v first begun k same_best same_queue
  turn_at p q = subst₂ (Turn m v first begun k) (sym p) (sym q) turn

  -- segment k starts elsewhere
  pub turn_past : Sound m → k < segments m → from m k ≢ v → Turn m v first begun (k + 1) best queue
  turn_past sound known apart =
      let fits = turn.fits in
      record {
        keeps = turn.keeps;
        fits = omega (arith, outgoing_passed m v k);
        goes = goes_on m v 0 k (k + 1) first best best (held begun) (held queue) (held queue) turn.goes
            (goes_past m sound v k known best (held queue) apart);
      }

  -- it starts at v: the queue has room for a label more
  pub turn_room : k < segments m → from m k ≡ v → length (held queue) < room queue
  turn_room known starts =
      let fits = turn.fits in
      let same = turn.keeps.same_room in
      omega (arith, outgoing_relaxed m v k known starts)

  pub turn_relaxed : Sound m → k < segments m → from m k ≡ v → (after : List ℕ) (more : Queue Label)
      → Keeps queue more → Relaxed m k best (held queue) after (held more) → Turn m v first begun (k + 1) after more
  turn_relaxed sound known starts after more keeps relaxed =
      let fits = turn.fits in
      record {
        keeps = keeps_on turn.keeps keeps;
        fits = omega (
          arith,
          outgoing_relaxed m v k known starts,
          relaxed_length m k best (held queue) after (held more) relaxed,
        );
        goes = goes_on m v 0 k (k + 1) first best after (held begun) (held queue) (held more) turn.goes
            (goes_relaxed m sound v k known best (held queue) after (held more) starts relaxed);
      }

  -- all segments are passed
  pub turn_ends : k ≡ segments m → Goes m v 0 first (held begun) (segments m) best (held queue)
  turn_ends all = subst (λ n. Goes m v 0 first (held begun) n best (held queue)) all turn.goes
