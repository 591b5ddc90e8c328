-- The answers that the results of the acts are.
use Rattle.std.specs.Prelude.{Ok, Err, Result}
use Rattle.plan.specs.declared.refusals.Refusal.{Refusal}
use Rattle.bookings.specs.declared.calls.Answer.{Answer}
use Rattle.bookings.specs.declared.calls.Answer.TheVariants.{Done, Refused}

-- of an act that takes a token, and gives it back with a refusal
abbrev pub told : {X Y : Type 0} → Result X (Refusal × Y) → Answer
told (Ok _) = Done
told (Err back) = Refused back.0

-- of an act by the number alone
abbrev pub taken : {X : Type 0} → Result X Refusal → Answer
taken (Ok _) = Done
taken (Err x) = Refused x
