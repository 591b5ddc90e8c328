use Rattle.std.proofs.Common.{refl, arith}
use Rattle.call_lines.proofs.Digits.{passes_limit, read_on_more}
use Rattle.call_lines.proofs.parsing.value_of.Goals as goal
use Rattle.call_lines.proofs.parsing.value_of.Goals.{
  then-place-eq-MOST_DIGITS-via-then-place-eq-MOST_DIGITS,
  then-place-eq-MOST_DIGITS-via-else-place-eq-MOST_DIGITS+then-value,
}

pub returns-then-place-eq-MOST_DIGITS : goal.returns-then-place-eq-MOST_DIGITS
returns-then-place-eq-MOST_DIGITS c =
    let digits = c.args.digits.now in
    let place = c.loop-place.place in
    let inside = c.loop-place-test.true in
    let more = read_on_more digits place inside in
    let so_far = c.loop-place.invariant.0 in (
      place,
      refl,
      passes_limit digits place c.requires.digits inside (omega arith) (omega arith)
          (λ under.
          elim c.then-place-eq-MOST_DIGITS.branch [
            | then-place-eq-MOST_DIGITS-via-then-place-eq-MOST_DIGITS w ↦ absurd (omega arith)
            | then-place-eq-MOST_DIGITS-via-else-place-eq-MOST_DIGITS+then-value w ↦ omega arith
          ]),
    )
