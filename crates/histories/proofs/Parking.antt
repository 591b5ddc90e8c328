-- Parking the tokens that are out, until none is.
use Rattle.std.proofs.Common.{◌≡◌, ℕ, ◌+◌, true, cond, eqb, List, [], ◌∷◌, ◌++◌, Some, sym, refl, ap, ◌∙◌, ap₂, arith}
use Rattle.std.proofs.lemmas.Bool.{eq-eqb, eqb-true}
use Rattle.std.proofs.lemmas.Bool.Decides.{nat_tests}
use Rattle.book.specs.Meaning.{Meaning}
use Rattle.search.specs.Routes.{legs_of}
use Rattle.bookings.specs.Owed.{bare, changed, in_state, more, moved, over, owed, owed_legs, stands}
use Rattle.bookings.specs.States.{arrivals, code, leads_to, needed, withdrawals}
use Rattle.bookings.specs.Steps.{Step, listed}
use Rattle.bookings.specs.declared.calls.Answer.TheVariants.{Done}
use Rattle.bookings.specs.declared.calls.Call.TheVariants as call
use Rattle.bookings.specs.declared.calls.Exchange.{Exchange}
use Rattle.bookings.specs.declared.register.Register.{Register}
use Rattle.bookings.specs.declared.states.Act.{Act}
use Rattle.bookings.specs.declared.states.Booking.{Booking}
use Rattle.bookings.specs.declared.states.State.{State}
use Rattle.bookings.specs.declared.states.State.TheVariants.{Held, HeldParked, UnderWay, UnderWayParked}
use Rattle.histories.specs.Courses.{Going}
use Rattle.histories.specs.Parked.{AllParked, Parking, parked, parked_state}
use Rattle.histories.specs.Tokens.{hit, tally}
use Rattle.histories.proofs.Numbers.{numbered_next}
use Rattle.histories.proofs.Tallies.{lands, matched_done}

-- ---- states by their numbers

-- what becomes of a state by parking depends on its number alone
parked_by_code : (r s : State) → eqb (code r) (code s) ≡ true → parked_state r ≡ parked_state s
parked_by_code r s same = sym (back r) ∙ ap from_code (eqb-true (code r) (code s) same) ∙ back s
  where
    from_code : ℕ → State
    from_code n = cond (eqb n 0) HeldParked (cond (eqb n 1) HeldParked UnderWayParked)

    back : (s : State) → from_code (code s) ≡ parked_state s
    back Held = refl
    back HeldParked = refl
    back UnderWay = refl
    back UnderWayParked = refl

-- ---- bookings, but for parking

parked_moved : (n : ℕ) (s : State) (bs : List Booking) → stands n s bs ≡ true
    → parked (moved n (parked_state s) bs) ≡ parked bs
parked_moved n s [] standing = refl
parked_moved n s (b ∷ bs) standing =
    grind (arith, nat_tests, standing, twice s, parked_by_code b.state s, parked_moved n s bs)
  where
    twice : (s : State) → parked_state (parked_state s) ≡ parked_state s
    twice Held = refl
    twice HeldParked = refl
    twice UnderWay = refl
    twice UnderWayParked = refl

-- a booking that no token is out for is parked
parked_rests : (s : State) (k : ℕ) → hit Held k s k ≡ 0 → hit UnderWay k s k ≡ 0 → parked_state s ≡ s
parked_rests Held k none other = let same = eq-eqb k k refl in absurd (grind (arith, none, same))
parked_rests HeldParked k none other = refl
parked_rests UnderWay k none other = let same = eq-eqb k k refl in absurd (grind (arith, other, same))
parked_rests UnderWayParked k none other = refl

parked_none : (bs : List Booking) → ((n : ℕ) → tally Held n bs ≡ 0) → ((n : ℕ) → tally UnderWay n bs ≡ 0)
    → parked bs ≡ bs
parked_none [] none others = refl
parked_none (b ∷ bs) none others =
    let k = b.number in
    let first = none k in
    let second = others k in
    ap₂ (λ (s : State) (cs : List Booking). in_state b s ∷ cs)
    (parked_rests b.state k (omega arith) (omega arith))
    (parked_none bs (λ n. let both = none n in omega arith) (λ n. let both = others n in omega arith))

-- ---- from token to token

-- an act that parks a token
module _ (m m₁ m₂ : Meaning) (f g g' : Register) (H P H' P' : ℕ → ℕ) (n : ℕ) (act : Act) where
  pub token_parked : leads_to act ≡ Some (parked_state (needed act)) → withdrawals act ≡ 0 → arrivals act ≡ 0
      → Parking m f m₁ g H P → Step m₁ g (call.Act act n) Done m₂ g'
      → ((k : ℕ) → H' k + hit Held k (needed act) n ≡ H k + lands Held k (leads_to act) n)
      → ((k : ℕ) → P' k + hit UnderWay k (needed act) n ≡ P k + lands UnderWay k (leads_to act) n)
      → Parking m f m₂ g' H' P'
  token_parked parks no_withdrawal no_arrival parking step holds passages = record {
    same =
        ap parked (step.owes ∙ ap (λ s. changed s n (listed g)) parks)
        ∙ parked_moved n (needed act) (listed g) step.answers
        ∙ parking.same;
    last = step.numbers ∙ parking.last;
    withdrawn = omega (arith, step.withdrawn, parking.withdrawn, no_withdrawal);
    arrived = omega (arith, step.arrived, parking.arrived, no_arrival);
    agrees = λ w is. step.agrees w (parking.agrees w is);
    matched =
        matched_done H P H' P' (listed g) (listed g') parking.matched act n step.answers step.owes holds passages;
    numbered = numbered_next step parking.numbered;
  }

-- ---- before and after

-- no token is out any more
pub all_parked : (m m' : Meaning) (f g : Register) (H P : ℕ → ℕ) → Parking m f m' g H P → ((k : ℕ) → H k ≡ 0)
    → ((k : ℕ) → P k ≡ 0) → AllParked m f m' g
all_parked m m' f g H P parking holds passages =
    let matched = parking.matched in
    record {
      lists =
          sym (parked_none (listed g) (λ n. matched.held n ∙ holds n) (λ n. matched.under_way n ∙ passages n))
          ∙ parking.same;
      last = parking.last;
      withdrawn = parking.withdrawn;
      arrived = parking.arrived;
      agrees = parking.agrees;
    }

-- parking leaves the legs as they are
owed_legs_parked : (bs : List Booking) → owed_legs (parked bs) ≡ owed_legs bs
owed_legs_parked [] = refl
owed_legs_parked (b ∷ bs) = ap (λ ls. legs_of b.route ++ ls) (owed_legs_parked bs)

pub going_parked : (w m m' : Meaning) (f g : Register) (xs : List Exchange) → listed f ≡ owed xs → AllParked m f m' g
    → Going w m xs → Going w m' xs
going_parked w m m' f g xs owes all going = record {
  agrees =
      all.agrees w (going.agrees ∙ ap (over w) (sym owes))
      ∙ ap (over w) all.lists
      ∙ ap (more (bare w)) (owed_legs_parked (listed f))
      ∙ ap (over w) owes;
  course = going.course;
}
