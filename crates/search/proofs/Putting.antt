-- A put into a queue that has room.
use Rattle.std.proofs.Common.{◌<◌, length, Ok, Err, Result, MatchResult, refl, arith}
use Rattle.std.specs.Result.{IsOk}
use Rattle.queue.specs.Queue.{Added, Refused, held, room}
use Rattle.queue.specs.declared.Full.{Full}
use Rattle.queue.specs.declared.Queue.{Queue}

module _ {X : Type 0} (x : X) (old new : Queue X) where
  pub put_ok : (r : Result (Unit {0}) Full) → MatchResult r (λ _. Added x old new) (λ _. Refused old new)
      → length (held old) < room old → IsOk r
  put_ok (Ok u) added left = refl
  put_ok (Err e) refused left = absurd (let full = refused.full in omega arith)

  pub put_added : (r : Result (Unit {0}) Full) → MatchResult r (λ _. Added x old new) (λ _. Refused old new)
      → length (held old) < room old → Added x old new
  put_added (Ok u) added left = added
  put_added (Err e) refused left = absurd (let full = refused.full in omega arith)
