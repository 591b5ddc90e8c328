-- What a call comes to, by its answer.
use Rattle.std.proofs.Common.{◌≡◌, ℕ, true, sym, refl, ◌∙◌, subst, arith}
use Rattle.std.proofs.lemmas.Bool.{cond-false, cond-true}
use Rattle.book.specs.Meaning.{Meaning}
use Rattle.bookings.specs.States.{needed}
use Rattle.bookings.specs.Steps.{Step, listed}
use Rattle.bookings.specs.declared.calls.Answer.{Answer}
use Rattle.bookings.specs.declared.calls.Answer.TheVariants.{NoToken}
use Rattle.bookings.specs.declared.calls.Call.TheVariants as call
use Rattle.bookings.specs.declared.register.Register.{Register}
use Rattle.bookings.specs.declared.states.Act.{Act}
use Rattle.histories.specs.Courses.{Made}
use Rattle.histories.specs.Promise.{takes_token}
use Rattle.histories.specs.Tokens.{tally}
use Rattle.histories.proofs.Tallies.{tally_none}

-- an act whose token is not out
pub not_made : (m : Meaning) (g : Register) (act : Act) (n : ℕ) → takes_token act ≡ true
    → tally (needed act) n (listed g) ≡ 0 → Made m g (call.Act act n) NoToken m g
not_made m g act n by_token none =
    let standing = tally_none (needed act) n (listed g) none in
    record {
      step = record {
        answers = standing;
        owes = refl;
        numbers = refl;
        withdrawn = omega arith;
        arrived = omega arith;
        agrees = λ w is. is;
      };
      told = sym (cond-true _ _ _ by_token) ∙ sym (cond-false _ _ _ standing);
    }

-- a step by a number is one by an equal number
pub step_by : {m m' : Meaning} {g g' : Register} {a : Answer} (act : Act) {n k : ℕ} → n ≡ k
    → Step m g (call.Act act n) a m' g' → Step m g (call.Act act k) a m' g'
step_by {m} {m'} {g} {g'} {a} act is step = subst (λ i. Step m g (call.Act act i) a m' g') is step
