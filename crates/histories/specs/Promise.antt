-- What a controller promises of every list of calls, made one after the other on a book with no leg standing at first.
use Rattle.std.specs.Prelude.{◌≡◌, ℕ, ◌+◌, ◌<◌, ◌≤◌, Bool, true, false, cond, List, [], ◌∷◌, ◌++◌, map, length, Ok, Err, Result, nat_lt}
use Rattle.std.specs.List.Sorted.{IsPermutation}
use Rattle.plan.specs.Limits.{most_numbers}
use Rattle.plan.specs.declared.refusals.Refusal.TheVariants.{NoWalk}
use Rattle.book.specs.Loads.{Within}
use Rattle.book.specs.Meaning.{Meaning, segments}
use Rattle.book.specs.declared.legs.Leg.{Leg}
use Rattle.search.specs.Finds.{Hopeless}
use Rattle.search.specs.Routes.{legs_of}
use Rattle.search.specs.declared.route.Route.{Route}
use Rattle.walks.specs.Walks.{Walk}
use Rattle.walks.specs.declared.requests.Request.{Request}
use Rattle.bookings.specs.Answers.{Answers, before_search}
use Rattle.bookings.specs.Owed.{over, owed, stands}
use Rattle.bookings.specs.States.{needed, refusal_of}
use Rattle.bookings.specs.declared.calls.Answer.{Answer}
use Rattle.bookings.specs.declared.calls.Answer.TheVariants.{Done, Granted, NoToken, Refused}
use Rattle.bookings.specs.declared.calls.Call.{Call}
use Rattle.bookings.specs.declared.calls.Call.TheVariants as call
use Rattle.bookings.specs.declared.calls.Exchange.{Exchange}
use Rattle.bookings.specs.declared.states.Act.{Act}
use Rattle.bookings.specs.declared.states.Act.TheVariants.{
  Arrive,
  Confirm,
  ParkHold,
  ParkPassage,
  TakeUpHold,
  TakeUpPassage,
  Withdraw,
}
use Rattle.bookings.specs.declared.states.Booking.{Booking}

-- ---- what a history comes to

-- what a book that began as w means after the exchanges: the plan and bars of w, with exactly the legs of the routes
-- owed standing
abbrev pub book_after : Meaning → List Exchange → Meaning
book_after w xs = over w (owed xs)

-- how many requests were granted
abbrev pub grants : List Exchange → ℕ
grants [] = 0
grants (x ∷ xs) = granted x.answer + grants xs
  where
    granted : Answer → ℕ
    granted (Granted n r) = 1
    granted Done = 0
    granted (Refused y) = 0
    granted NoToken = 0

-- ---- the answers

-- the legs lead from the origin of the request, not left before its slot, to its destination, each leg admissible; and
-- no walk that does so arrives before them
pub record EarliestWalk (m : Meaning) (q : Request) (legs : List Leg) : Type 0 where
  pub arrival : ℕ
  pub walk : Walk m q.origin q.slot q.destination arrival legs
  pub earliest : (b : ℕ) (others : List Leg) → Walk m q.origin q.slot q.destination b others → arrival ≤ b

-- a request, with n bookings standing and k numbers given
pub record RequestAnswered (m : Meaning) (n k : ℕ) (q : Request) (room : ℕ) (a : Answer) : Type 0 where
  -- numbers count up from 1, and a route is an earliest walk
  pub granted : (number : ℕ) (r : Route) → a ≡ Granted number r → (number ≡ k + 1) × EarliestWalk m q (legs_of r)
  -- past the refusals by 11 to 16, it is refused by 17 exactly where no walk exists
  pub no_walk : before_search m n k q room ≡ Ok tt → a ≡ Refused NoWalk → Hopeless m q
  pub hopeless : before_search m n k q room ≡ Ok tt → Hopeless m q → a ≡ Refused NoWalk

-- whether an act takes a token; the others take a number
abbrev pub takes_token : Act → Bool
takes_token Confirm = true
takes_token Withdraw = true
takes_token Arrive = true
takes_token ParkHold = true
takes_token ParkPassage = true
takes_token TakeUpHold = false
takes_token TakeUpPassage = false

-- done where the booking stands in the state that the act needs; elsewhere an act that takes a token is not made, and
-- one that takes a number is refused
abbrev pub act_answer : List Booking → Act → ℕ → Answer
act_answer bs act n =
    cond (stands n (needed act) bs) Done (cond (takes_token act) NoToken (Refused (refusal_of act)))

abbrev pub Answered : Meaning → List Booking → ℕ → Call → Answer → Type 0
Answered m bs k (call.Ask q room) a = RequestAnswered m (length bs) k q room a
Answered m bs k (call.Act act n) a = a ≡ act_answer bs act n

-- ---- one history

-- a book that began as w with no leg standing means m after the history
pub record Promise (w : Meaning) (history : List Exchange) (m : Meaning) : Type 0 where
  -- its plan and bars are as they were, and exactly the legs of the routes owed stand
  pub stands : m ≡ book_after w history
  -- in the book after every front of the history no segment is above its critical count in any slot
  pub within : (front rest : List Exchange) → front ++ rest ≡ history → Within (book_after w front)
  -- each answer is the one defined on what was owed just before it
  pub answers : (front : List Exchange) (x : Exchange) (rest : List Exchange) → front ++ x ∷ rest ≡ history
      → Answers (book_after w front) (owed front) (grants front) x.call x.answer
  -- which says outright
  pub answered : (front : List Exchange) (x : Exchange) (rest : List Exchange) → front ++ x ∷ rest ≡ history
      → Answered (book_after w front) (owed front) (grants front) x.call x.answer

-- ---- two histories, over books of any two types

-- the legs of each route owed
abbrev pub routes : List Exchange → List (List Leg)
routes xs = map (λ b. legs_of b.route) (owed xs)

-- both books show one plan and the same bars, which no call changes; the same routes are owed, in any order; and
-- neither has given all its numbers
pub record Alike (w : Meaning) (xs : List Exchange) (v : Meaning) (ys : List Exchange) : Type 0 where
  pub plan : w.shown ≡ v.shown
  pub bars : w.bars ≡ v.bars
  pub owe : IsPermutation (routes xs) (routes ys)
  pub numbers_left : (grants xs < most_numbers) × (grants ys < most_numbers)

-- the legs granted, or else the answer
abbrev pub outcome : Answer → Result (List Leg) Answer
outcome (Granted n r) = Ok (legs_of r)
outcome Done = Err Done
outcome (Refused x) = Err (Refused x)
outcome NoToken = Err NoToken

-- a search of the book has labels enough
abbrev pub enough : Meaning → ℕ → Bool
enough m room = nat_lt (segments m) room

-- wherever in the two histories one request is put, with labels enough on both sides or on neither, and the two are
-- alike just before it, it is granted the same legs or refused by the same refusal
abbrev pub SameAnswers : Meaning → List Exchange → Meaning → List Exchange → Type 0
SameAnswers w history v other =
    (xs ys rest others : List Exchange) (q : Request) (room space : ℕ) (a b : Answer)
    → xs ++ record { call = call.Ask q room; answer = a } ∷ rest ≡ history
    → ys ++ record { call = call.Ask q space; answer = b } ∷ others ≡ other
    → enough w room ≡ enough v space → Alike w xs v ys → outcome a ≡ outcome b
