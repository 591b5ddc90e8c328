use Rattle.std.proofs.Common.{rules}
use Rattle.std.proofs.lemmas.Iterator.{IsFirst-from_position, YieldsList-from_slice}
use borrow.Author.Tests.{tests}
use Rattle.call_lines.specs.Grammar.{Digit}
use Rattle.call_lines.proofs.Digits.{front_from_first}
use Rattle.call_lines.proofs.parsing.digit_count.Goals as goal

pub returns : goal.returns
returns c =
    rw c.unwrap_or.ensures
    (front_from_first c.args.bytes.now c.position.result
    (IsFirst-from_position _ _ _ (λ x. Digit x → ⊥) Digit c.position.ensures.ran
    (YieldsList-from_slice c.args.bytes.now cc) (λ x q k. search (rules, tests)) (λ x q k. search (rules, tests))))
