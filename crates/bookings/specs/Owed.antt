-- What calls and their answers owe: the bookings that stand, each with its state and route.
use Rattle.std.specs.Prelude.{ℕ, ◌+◌, Bool, false, cond, List, [], ◌∷◌, ◌++◌, Some, None, Option, ◌==◌}
use Rattle.book.specs.Meaning.{Meaning, plus}
use Rattle.book.specs.declared.legs.Leg.{Leg}
use Rattle.search.specs.Routes.{legs_of}
use Rattle.bookings.specs.States.{code, leads_to}
use Rattle.bookings.specs.declared.calls.Answer.{Answer}
use Rattle.bookings.specs.declared.calls.Answer.TheVariants.{Done, Granted, NoToken, Refused}
use Rattle.bookings.specs.declared.calls.Call.{Call}
use Rattle.bookings.specs.declared.calls.Call.TheVariants as call
use Rattle.bookings.specs.declared.calls.Exchange.{Exchange}
use Rattle.bookings.specs.declared.states.Act.{Act}
use Rattle.bookings.specs.declared.states.Booking.{Booking}
use Rattle.bookings.specs.declared.states.State.{State}
use Rattle.bookings.specs.declared.states.State.TheVariants.{Held}

-- ---- bookings by their number: the first with it counts

-- whether the number stands in a state
abbrev pub stands : ℕ → State → List Booking → Bool
stands n s [] = false
stands n s (b ∷ bs) = cond (b.number == n) (code b.state == code s) (stands n s bs)

abbrev pub in_state : Booking → State → Booking
in_state b s = record { number = b.number; state = s; route = b.route }

-- the booking with the number comes to another state
abbrev pub moved : ℕ → State → List Booking → List Booking
moved n s [] = []
moved n s (b ∷ bs) = cond (b.number == n) (in_state b s ∷ bs) (b ∷ moved n s bs)

-- or ends
abbrev pub without : ℕ → List Booking → List Booking
without n [] = []
without n (b ∷ bs) = cond (b.number == n) bs (b ∷ without n bs)

-- the legs of the booking with the number
abbrev pub legs_by_number : ℕ → List Booking → List Leg
legs_by_number n [] = []
legs_by_number n (b ∷ bs) = cond (b.number == n) (legs_of b.route) (legs_by_number n bs)

-- ---- what is owed

abbrev pub changed : Option State → ℕ → List Booking → List Booking
changed (Some s) n bs = moved n s bs
changed None n bs = without n bs

abbrev pub done : Call → List Booking → List Booking
done (call.Ask q room) bs = bs
done (call.Act act n) bs = changed (leads_to act) n bs

-- a grant adds its number with the route, as a hold whose token is out; an act that was done moves or ends its booking;
-- every other call, and every refused one, leaves all as it is
abbrev pub after : Call → Answer → List Booking → List Booking
after c (Granted n r) bs = bs ++ (record { number = n; state = Held; route = r } ∷ [])
after c Done bs = done c bs
after c (Refused x) bs = bs
after c NoToken bs = bs

-- from the bookings bs on
abbrev pub owed_from : List Booking → List Exchange → List Booking
owed_from bs [] = bs
owed_from bs (x ∷ xs) = owed_from (after x.call x.answer bs) xs

abbrev pub owed : List Exchange → List Booking
owed xs = owed_from [] xs

-- ---- numbers and tallies

-- the last number given, where k was
abbrev pub number_after : Answer → ℕ → ℕ
number_after (Granted n r) k = n
number_after Done k = k
number_after (Refused x) k = k
number_after NoToken k = k

abbrev pub last_number : ℕ → List Exchange → ℕ
last_number k [] = k
last_number k (x ∷ xs) = last_number (number_after x.answer k) xs

-- how many withdrawals and arrivals an exchange is
abbrev pub counted : (Act → ℕ) → Call → Answer → ℕ
counted count c (Granted n r) = 0
counted count (call.Ask q room) Done = 0
counted count (call.Act act n) Done = count act
counted count c (Refused x) = 0
counted count c NoToken = 0

abbrev pub all_counted : (Act → ℕ) → List Exchange → ℕ
all_counted count [] = 0
all_counted count (x ∷ xs) = counted count x.call x.answer + all_counted count xs

-- ---- the legs of the bookings in a book

abbrev pub owed_legs : List Booking → List Leg
owed_legs [] = []
owed_legs (b ∷ bs) = legs_of b.route ++ owed_legs bs

-- a book with the legs added
abbrev pub more : Meaning → List Leg → Meaning
more m [] = m
more m (l ∷ ls) = more (plus m l) ls

-- a book's plan and bars with no leg standing
abbrev pub bare : Meaning → Meaning
bare m = record { shown = m.shown; standing = λ _ _. 0; bars = m.bars }

-- the plan and bars of w, with exactly the legs of the bookings standing
abbrev pub over : Meaning → List Booking → Meaning
over w bs = more (bare w) (owed_legs bs)
