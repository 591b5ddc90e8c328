-- What a register does.
use Rattle.std.specs.Prelude.{◌≡◌, ℕ, suc, ◌+◌, true, false, cond, List, [], ◌∷◌, ◌++◌, length, Some, None, Ok, Err, Option, Result, ◌==◌}
use Rattle.std.specs.List.{find}
use Rattle.plan.specs.declared.refusals.Refusal.{Refusal}
use Rattle.search.specs.Routes.{legs_of}
use Rattle.search.specs.declared.route.Route.{Route}
use Rattle.bookings.specs.Answers.{vacancy}
use Rattle.bookings.specs.Owed.{changed, legs_by_number, stands}
use Rattle.bookings.specs.States.{arrivals, code, leads_to, needed, withdrawals}
use Rattle.bookings.specs.Steps.{listed}
use Rattle.bookings.specs.declared.register.Register.{Register}
use Rattle.bookings.specs.declared.states.Act.{Act}
use Rattle.bookings.specs.declared.states.Booking.{Booking}
use Rattle.bookings.specs.declared.states.Next.{Next}
use Rattle.bookings.specs.declared.states.Next.TheVariants.{Arrived, To, Withdrawn}
use Rattle.bookings.specs.declared.states.State.{State}
use Rattle.bookings.specs.declared.states.State.TheVariants.{Held}
use Rattle.bookings.specs.declared.states.Tally.{Tally}

-- nothing is listed and no number has been given
pub record Begins (g : Register) : Type 0 where
  pub none : listed g ≡ []
  pub last : g.last ≡ 0
  pub withdrawn : g.withdrawn ≡ 0
  pub arrived : g.arrived ≡ 0

-- ---- finding

-- the place of the first booking with the number, or past the end
abbrev pub place : ℕ → List Booking → ℕ
place n [] = 0
place n (b ∷ bs) = cond (b.number == n) 0 (suc (place n bs))

-- that booking
abbrev pub first_with : ℕ → List Booking → Option Booking
first_with n bs = find (λ b. b.number == n) bs

-- ---- acts

-- what an act leads to, by whether it ends the booking and how
abbrev pub Leads : Act → Next → Type 0
Leads act (To s) = (leads_to act ≡ Some s) × (withdrawals act ≡ 0) × (arrivals act ≡ 0)
Leads act Withdrawn = (leads_to act ≡ None) × (withdrawals act ≡ 1) × (arrivals act ≡ 0)
Leads act Arrived = (leads_to act ≡ None) × (withdrawals act ≡ 0) × (arrivals act ≡ 1)

-- a booking in the state s can be acted on only where that is the state needed
abbrev pub Follows : State → Act → Option Next → Type 0
Follows s act (Some next) = ((code s == code (needed act)) ≡ true) × Leads act next
Follows s act None = (code s == code (needed act)) ≡ false

-- the booking stood as the act needs; the act was done with it and counted; the route is its route
pub record DoneWith (g : Register) (act : Act) (n : ℕ) (route : Route) (g' : Register) : Type 0 where
  pub stood : stands n (needed act) (listed g) ≡ true
  pub items : listed g' ≡ changed (leads_to act) n (listed g)
  pub legs : legs_of route ≡ legs_by_number n (listed g)
  pub last : g'.last ≡ g.last
  pub withdrawn : g'.withdrawn ≡ g.withdrawn + withdrawals act
  pub arrived : g'.arrived ≡ g.arrived + arrivals act

-- elsewhere nothing changes
abbrev pub Acted : Register → Act → ℕ → Option Route → Register → Type 0
Acted g act n (Some route) g' = DoneWith g act n route g'
Acted g act n None g' = (stands n (needed act) (listed g) ≡ false) × (g' ≡ g)

-- ---- grants

-- the route is listed as a hold, under the next number
pub record ListedToo (g : Register) (route : Route) (n : ℕ) (g' : Register) : Type 0 where
  pub vacant : vacancy (length (listed g)) g.last ≡ Ok tt
  pub number : n ≡ g.last + 1
  pub items : listed g' ≡ listed g ++ (record { number = n; state = Held; route = route } ∷ [])
  pub last : g'.last ≡ n
  pub withdrawn : g'.withdrawn ≡ g.withdrawn
  pub arrived : g'.arrived ≡ g.arrived

-- or there is no room for it, and nothing changes
abbrev pub Entered : Register → Route → Result ℕ Refusal → Register → Type 0
Entered g route (Ok n) g' = ListedToo g route n g'
Entered g route (Err x) g' = (vacancy (length (listed g)) g.last ≡ Err x) × (g' ≡ g)

-- ---- tallies

-- the last number given counts the bookings granted
abbrev pub tally_of : Register → Tally
tally_of g = record {
  granted = g.last;
  standing = length (listed g);
  withdrawn = g.withdrawn;
  arrived = g.arrived;
}
