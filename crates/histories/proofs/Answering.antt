-- What the definition of answers says outright, and that it leaves one answer to a request.
use Rattle.std.proofs.Common.{◌≡◌, ℕ, ◌+◌, ◌<◌, ◌≤◌, ltb, List, length, Ok, Err, Result, sym, refl, ap, ◌∙◌, subst, ⊎_elim, arith}
use Rattle.std.proofs.lemmas.Bool.{lt-ltb}
use Rattle.plan.specs.Limits.{most_legs, most_numbers}
use Rattle.plan.specs.declared.refusals.Refusal.{Refusal}
use Rattle.plan.specs.declared.refusals.Refusal.TheVariants.{NoWalk}
use Rattle.book.specs.Meaning.{Meaning, segments, total}
use Rattle.book.specs.declared.legs.Leg.{Leg}
use Rattle.search.specs.Finds as find
use Rattle.search.specs.Requests.{checks}
use Rattle.search.specs.Routes.{legs_of}
use Rattle.walks.specs.declared.requests.Request.{Request}
use Rattle.walks.proofs.Choosing.{chosen_unique}
use Rattle.bookings.specs.Answers.{Answers, Decided, Refuses, SearchRefuses, before_search, vacancy}
use Rattle.bookings.specs.declared.calls.Answer.{Answer}
use Rattle.bookings.specs.declared.calls.Answer.TheVariants.{Done, Granted, NoToken, Refused}
use Rattle.bookings.specs.declared.calls.Call.{Call}
use Rattle.bookings.specs.declared.calls.Call.TheVariants as call
use Rattle.bookings.specs.declared.states.Booking.{Booking}
use Rattle.bookings.proofs.Granting.{past_checks, refused_by_checks}
use Rattle.histories.specs.Courses.{Told}
use Rattle.histories.specs.Promise.{Answered, EarliestWalk, outcome}

-- ---- no answer is two

hopeless_not_granted : (m : Meaning) (q : Request) (legs : List Leg) → find.Hopeless m q → find.Granted m q legs → ⊥
hopeless_not_granted m q legs hopeless granted = hopeless (granted.arrival, legs, granted.walk)

granted_unique : (m : Meaning) (q : Request) (legs others : List Leg) → find.Granted m q legs → find.Granted m q others
    → legs ≡ others
granted_unique m q legs others one other =
    chosen_unique m q.origin q.slot q.destination legs others one.chosen other.chosen

-- ---- said outright

module _ (m : Meaning) (bs : List Booking) (k : ℕ) (q : Request) (room : ℕ) where
  granted_outright : (a : Answer) → Decided m bs k q room a → (n : ℕ) (r : _) → a ≡ Granted n r
      → (n ≡ k + 1) × EarliestWalk m q (legs_of r)
  granted_outright a decided n r is =
      let grant : Decided m bs k q room (Granted n r) = subst (Decided m bs k q room) is decided in
      let route = grant.1.granted in
      (grant.0, record { arrival = route.arrival; walk = route.walk; earliest = route.earliest })

  no_walk_outright : (a : Answer) → Decided m bs k q room a → before_search m (length bs) k q room ≡ Ok tt
      → a ≡ Refused NoWalk → find.Hopeless m q
  no_walk_outright a decided passes is =
      let refuses : Decided m bs k q room (Refused NoWalk) = subst (Decided m bs k q room) is decided in
      ⊎_elim
      (λ early. cc)
      (λ late. ⊎_elim (λ none. none.0) (λ many. let same = many.3 in cc) late.1)
      refuses

  hopeless_outright : (a : Answer) → Decided m bs k q room a → before_search m (length bs) k q room ≡ Ok tt
      → find.Hopeless m q → a ≡ Refused NoWalk
  hopeless_outright (Granted n r) decided passes hopeless =
      absurd (hopeless_not_granted m q (legs_of r) hopeless decided.1.granted)
  hopeless_outright (Refused x) decided passes hopeless =
      ⊎_elim
      (λ early. cc)
      (λ late.
      ⊎_elim
      (λ none. ap (λ y. Refused y) none.1)
      (λ many. absurd (hopeless_not_granted m q many.0 hopeless many.1))
      late.1)
      decided
  hopeless_outright Done decided passes hopeless = absurd decided
  hopeless_outright NoToken decided passes hopeless = absurd decided

pub answered_outright : (m : Meaning) (bs : List Booking) (k : ℕ) (c : Call) (a : Answer) → Answers m bs k c a
    → Told bs c a → Answered m bs k c a
answered_outright m bs k (call.Ask q room) a answers told = record {
  granted = granted_outright m bs k q room a answers;
  no_walk = no_walk_outright m bs k q room a answers;
  hopeless = hopeless_outright m bs k q room a answers;
}
answered_outright m bs k (call.Act act n) a answers told = told

-- ---- one answer

checks_same : (m : Meaning) (q : Request) (room space : ℕ) → ltb (segments m) room ≡ ltb (segments m) space
    → checks m q room ≡ checks m q space
unfolding checks
checks_same m q room space same = simp same

-- what comes before the search does not depend on which numbers are left, nor on how many labels are more than enough
pub before_same : (m : Meaning) (n k j : ℕ) (q : Request) (room space : ℕ)
    → ltb (segments m) room ≡ ltb (segments m) space → k < most_numbers → j < most_numbers
    → before_search m n k q room ≡ before_search m n j q space
before_same m n k j q room space same left others = by (checks m q space) refl
  where
    by : (r : Result (Unit {0}) Refusal) → checks m q space ≡ r
        → before_search m n k q room ≡ before_search m n j q space
    by (Ok u) is =
        let vacant : vacancy n k ≡ vacancy n j = simp (lt-ltb k most_numbers left, lt-ltb j most_numbers others) in
        past_checks m n k q room (checks_same m q room space same ∙ is) ∙ vacant ∙ sym (past_checks m n j q space is)
    by (Err x) is =
        refused_by_checks m n k q room x (checks_same m q room space same ∙ is)
        ∙ sym (refused_by_checks m n j q space x is)

module _ (m : Meaning) (q : Request) where
  search_refuses_unique : (x y : Refusal) → SearchRefuses m q x → SearchRefuses m q y → x ≡ y
  search_refuses_unique x y one other =
      ⊎_elim
      (λ none.
      ⊎_elim (λ none'. none.1 ∙ sym none'.1)
      (λ many. absurd (hopeless_not_granted m q many.0 none.0 many.1))
      other)
      (λ many.
      ⊎_elim (λ none. absurd (hopeless_not_granted m q many.0 none.0 many.1))
      (λ many'. many.3 ∙ sym many'.3)
      other)
      one

  grant_not_refused : (legs : List Leg) (x : Refusal) → find.Granted m q legs → total m + length legs ≤ most_legs
      → SearchRefuses m q x → ⊥
  grant_not_refused legs x granted fits refuses =
      ⊎_elim
      (λ none. hopeless_not_granted m q legs none.0 granted)
      (λ many.
      let same = ap length (granted_unique m q legs many.0 granted many.1) in
      let over = many.2 in
      omega arith)
      refuses

  -- two answers on one meaning, after the same refusals before the search
  pub outcome_unique : (n k j room space : ℕ) (bs cs : List Booking) (a b : Answer) → length bs ≡ n → length cs ≡ n
      → before_search m n k q room ≡ before_search m n j q space
      → Decided m bs k q room a → Decided m cs j q space b → outcome a ≡ outcome b
  outcome_unique n k j room space bs cs (Granted i r) (Granted h s) few many before one other =
      ap (λ ls. Ok ls) (granted_unique m q (legs_of r) (legs_of s) one.1.granted other.1.granted)
  outcome_unique n k j room space bs cs (Granted i r) (Refused y) few many before one other =
      let passes : before_search m n j q space ≡ Ok tt =
      sym before ∙ subst (λ z. before_search m z k q room ≡ Ok tt) few one.1.passes in
      let refuses : Refuses m n j q space y = subst (λ z. Refuses m z j q space y) many other in
      ⊎_elim
      (λ early. cc)
      (λ late. absurd (grant_not_refused (legs_of r) y one.1.granted one.1.fits late.1))
      refuses
  outcome_unique n k j room space bs cs (Refused x) (Granted h s) few many before one other =
      let passes : before_search m n k q room ≡ Ok tt =
      before ∙ subst (λ z. before_search m z j q space ≡ Ok tt) many other.1.passes in
      let refuses : Refuses m n k q room x = subst (λ z. Refuses m z k q room x) few one in
      ⊎_elim
      (λ early. cc)
      (λ late. absurd (grant_not_refused (legs_of s) x other.1.granted other.1.fits late.1))
      refuses
  outcome_unique n k j room space bs cs (Refused x) (Refused y) few many before one other =
      let refuses : Refuses m n k q room x = subst (λ z. Refuses m z k q room x) few one in
      let refuses' : Refuses m n j q space y = subst (λ z. Refuses m z j q space y) many other in
      let same : x ≡ y =
      ⊎_elim
      (λ early.
      ⊎_elim
      (λ early'. let both : Err x ≡ Err y = sym early ∙ before ∙ early' in cc)
      (λ late. let passes = before ∙ late.0 in cc)
      refuses')
      (λ late.
      ⊎_elim
      (λ early. let passes = sym before ∙ late.0 in cc)
      (λ late'. search_refuses_unique x y late.1 late'.1)
      refuses')
      refuses in
      ap (λ z. Err (Refused z)) same
  outcome_unique n k j room space bs cs Done b few many before one other = absurd one
  outcome_unique n k j room space bs cs NoToken b few many before one other = absurd one
  outcome_unique n k j room space bs cs (Granted i r) Done few many before one other = absurd other
  outcome_unique n k j room space bs cs (Granted i r) NoToken few many before one other = absurd other
  outcome_unique n k j room space bs cs (Refused x) Done few many before one other = absurd other
  outcome_unique n k j room space bs cs (Refused x) NoToken few many before one other = absurd other
