-- Acts with tokens that are out: they are not refused, and the tokens out stay those of the bookings.
use Rattle.std.proofs.Common.{◌≡◌, ℕ, true, List, Ok, Err, Result, sym, refl, ◌∙◌, subst}
use Rattle.std.specs.Result.{IsOk}
use Rattle.std.proofs.lemmas.Bool.{both_ways}
use Rattle.plan.specs.declared.refusals.Refusal.{Refusal}
use Rattle.book.specs.Meaning.{Meaning}
use Rattle.bookings.specs.States.{needed}
use Rattle.bookings.specs.Steps.{Step, listed}
use Rattle.bookings.specs.declared.calls.Answer.TheVariants.{Done, NoToken}
use Rattle.bookings.specs.declared.calls.Call.TheVariants as call
use Rattle.bookings.specs.declared.register.Register.{Register}
use Rattle.bookings.specs.declared.states.Act.{Act}
use Rattle.controller.specs.Told.{told}
use Rattle.controller.specs.declared.tokens.Token.{Token}
use Rattle.histories.specs.Courses.{Made}
use Rattle.histories.specs.Promise.{takes_token}
use Rattle.histories.specs.Tokens.{Numbered, tally}
use Rattle.histories.proofs.Making.{not_made, step_by}
use Rattle.histories.proofs.Tallies.{counted_stands}
use Rattle.rehearsal.specs.TokenLists.{TakenOut, out}
use Rattle.rehearsal.proofs.TokenLists.{was_out}

module _ {K : Type 0} {m m' : Meaning} {g g' : Register} {ts us : List (Token K)} {n : ℕ} where
  -- an act with a token that was out is not refused, and so it is done
  pub accepted : {Y Z : Type 0} {t : Token K} (act : Act) (r : Result Y (Refusal × Z)) → TakenOut ts n t us
      → ((k : ℕ) → tally (needed act) k (listed g) ≡ out ts k) → Numbered g.last (listed g)
      → Step m g (call.Act act t.number) (told r) m' g' → IsOk r × Step m g (call.Act act n) Done m' g'
  accepted act (Ok x) taken counted numbered step = (refl, step_by act taken.is step)
  accepted {t = t} act (Err back) taken counted numbered step =
      let by_number = step_by act taken.is step in
      absurd
      (both_ways _ by_number.answers.0
      (counted_stands (needed act) n _ (listed g) numbered.distinct (counted n) (was_out ts n t us taken)))

-- and an act whose token is not out is not made
pub missing : {K : Type 0} {m : Meaning} {g : Register} {n : ℕ} {a : Act} (act : Act) (ts : List (Token K)) → a ≡ act
    → takes_token act ≡ true → ((k : ℕ) → tally (needed act) k (listed g) ≡ out ts k) → out ts n ≡ 0
    → Made m g (call.Act a n) NoToken m g
missing {m = m} {g = g} {n = n} act ts is by_token counted none =
    subst (λ b. Made m g (call.Act b n) NoToken m g) (sym is)
    (not_made m g act n by_token (counted n ∙ none))
