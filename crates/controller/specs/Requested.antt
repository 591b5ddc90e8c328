-- What the answer to a request is.
use Rattle.std.specs.Prelude.{◌≡◌, ℕ, false, List, length, is_ok, Ok, Err, Result}
use Rattle.plan.specs.declared.refusals.Refusal.{Refusal}
use Rattle.book.specs.Meaning.{Meaning}
use Rattle.search.specs.declared.route.Route.{Route}
use Rattle.queue_client.specs.declared.label.Label.{Label}
use Rattle.walks.specs.declared.requests.Request.{Request}
use Rattle.bookings.specs.Answers.{before_search}
use Rattle.bookings.specs.Steps.{Step, listed}
use Rattle.bookings.specs.declared.calls.Answer.TheVariants.{Granted, Refused}
use Rattle.bookings.specs.declared.calls.Call.TheVariants.{Ask}
use Rattle.bookings.specs.declared.register.Register.{Register}
use Rattle.controller.specs.declared.tokens.Token.{Token}
use Rattle.controller.specs.declared.tokens.kinds.Held.{Held}

-- a hold has the number of the booking that was granted with some route; a refusal is the one that the request gets
abbrev pub Requested : Meaning → Register → Request → ℕ → Result (Token Held) Refusal → Meaning → Register → Type 0
Requested m g q room (Ok hold) m' g' = (route : Route) × Step m g (Ask q room) (Granted hold.number route) m' g'
Requested m g q room (Err x) m' g' = Step m g (Ask q room) (Refused x) m' g'

-- a request that is refused before a search leaves the scratch as it was
abbrev pub Untouched : Meaning → Register → Request → List Label → List Label → Type 0
Untouched m g q before after =
    is_ok (before_search m (length (listed g)) g.last q (length before)) ≡ false → after ≡ before
