-- What a search answers.
use Rattle.std.specs.Prelude.{◌≡◌, ℕ, ◌<◌, ◌≤◌, false, ◌⊎◌, List, length, is_ok, Ok, Err, Result}
use Rattle.plan.specs.declared.refusals.Refusal.{Refusal}
use Rattle.plan.specs.declared.refusals.Refusal.TheVariants as refusal
use Rattle.book.specs.Meaning.{Meaning}
use Rattle.book.specs.declared.legs.Leg.{Leg}
use Rattle.walks.specs.Walks.{Chosen, SomeWalk, Walk}
use Rattle.queue_client.specs.declared.label.Label.{Label}
use Rattle.walks.specs.declared.requests.Request.{Request}
use Rattle.search.specs.Requests.{checks}
use Rattle.search.specs.Routes.{legs_of}
use Rattle.search.specs.declared.route.Route.{Route}

-- the legs are the chosen route for the request: a walk from its origin, not left before its slot, to its destination,
-- and no such walk arrives before it
pub record Granted (m : Meaning) (q : Request) (legs : List Leg) : Type 0 where
  pub chosen : Chosen m q.origin q.slot q.destination legs
  pub arrival : ℕ
  pub walk : Walk m q.origin q.slot q.destination arrival legs
  pub earliest : (b : ℕ) (others : List Leg) → Walk m q.origin q.slot q.destination b others → arrival ≤ b
  pub short : length legs < m.shown.junctions

-- no walk leads from its origin, not left before its slot, to its destination
abbrev pub Hopeless : Meaning → Request → Type 0
Hopeless m q = SomeWalk m q.origin q.slot q.destination → ⊥

-- a request that passes the checks is granted its route, or refused by 17 where no walk exists; another is refused by the
-- checks
abbrev pub Finds : Meaning → Request → ℕ → Result Route Refusal → Type 0
Finds m q room (Ok route) = (checks m q room ≡ Ok tt) × Granted m q (legs_of route)
Finds m q room (Err r) =
    (checks m q room ≡ Err r) ⊎ ((checks m q room ≡ Ok tt) × (r ≡ refusal.NoWalk) × Hopeless m q)

-- where the checks refuse, the scratch stays as it was
abbrev pub Untouched : Meaning → Request → List Label → List Label → Type 0
Untouched m q before after = is_ok (checks m q (length before)) ≡ false → after ≡ before
