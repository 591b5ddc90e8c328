-- The steps that the calls make.
use Rattle.std.proofs.Common.{◌≡◌, ℕ, length, Some, None, sym, ap, ◌∙◌, arith}
use Rattle.book.specs.Meaning.{Meaning}
use Rattle.search.specs.Routes.{legs_of}
use Rattle.search.specs.declared.route.Route.{Route}
use Rattle.walks.specs.declared.requests.Request.{Request}
use Rattle.bookings.specs.Answers.{Grants}
use Rattle.bookings.specs.Owed.{changed, more, over, without}
use Rattle.bookings.specs.Registers.{DoneWith, ListedToo}
use Rattle.bookings.specs.States.{leads_to}
use Rattle.bookings.specs.Steps.{Step, listed}
use Rattle.bookings.specs.declared.calls.Answer.TheVariants as answer
use Rattle.bookings.specs.declared.calls.Call.TheVariants as call
use Rattle.bookings.specs.declared.register.Register.{Register}
use Rattle.bookings.specs.declared.states.Act.{Act}
use Rattle.bookings.specs.declared.states.State.{State}
use Rattle.bookings.specs.declared.states.State.TheVariants.{Held}
use Rattle.bookings.proofs.Owing.{over_granted, over_moved, over_without}

module _ (m m' : Meaning) (g g' : Register) where
  module _ (act : Act) (n : ℕ) (route : Route) (done : DoneWith g act n route g') where
    done_step : ((w : Meaning) → m ≡ over w (listed g) → m' ≡ over w (changed (leads_to act) n (listed g)))
        → Step m g (call.Act act n) answer.Done m' g'
    done_step agrees = record {
      answers = done.stood;
      owes = done.items;
      numbers = done.last;
      withdrawn = done.withdrawn;
      arrived = done.arrived;
      agrees = λ w agreed. agrees w agreed ∙ ap (over w) (sym done.items);
    }

    -- the booking comes to another state, and the book stays
    pub moved_step : (s : State) → leads_to act ≡ Some s → m' ≡ m → Step m g (call.Act act n) answer.Done m' g'
    moved_step s leads book =
        done_step (λ w agreed. book ∙ agreed ∙ over_moved w n (leads_to act) s (listed g) leads)

    -- the booking ends, and its legs leave the book
    pub ended_step : leads_to act ≡ None → ((rest : Meaning) → m ≡ more rest (legs_of route) → m' ≡ rest)
        → Step m g (call.Act act n) answer.Done m' g'
    ended_step leads freed =
        done_step
        (λ w agreed.
        freed (over w (without n (listed g)))
        (agreed
        ∙ over_without w n (listed g)
        ∙ ap (more (over w (without n (listed g)))) (sym done.legs))
        ∙ ap (λ next. over w (changed next n (listed g))) (sym leads))

  -- a route is granted, and its legs come into the book
  pub granted_step : (q : Request) (room n : ℕ) (route : Route)
      → Grants m (length (listed g)) g.last q room (legs_of route) → ListedToo g route n g'
      → m' ≡ more m (legs_of route) → Step m g (call.Ask q room) (answer.Granted n route) m' g'
  granted_step q room n route grants listed_too reserved = record {
    answers = (listed_too.number, grants);
    owes = listed_too.items;
    numbers = listed_too.last;
    withdrawn = let same = listed_too.withdrawn in omega arith;
    arrived = let same = listed_too.arrived in omega arith;
    agrees = λ w agreed.
        reserved
        ∙ ap (λ x. more x (legs_of route)) agreed
        ∙ over_granted w (listed g) (record { number = n; state = Held; route = route })
        ∙ ap (over w) (sym listed_too.items);
  }
