use Rattle.std.proofs.Common.{refl, rules, arith}
use Rattle.call_lines.specs.declared.calls.LineCall.TheVariants as call
use Rattle.call_lines.proofs.Lines.{answers_made, answers_no_letter, answers_other, no_letter}
use Rattle.call_lines.proofs.parsing.parse.Goals as goal

pub returns-in_default : goal.returns-in_default
returns-in_default c = answers_no_letter _ _ c.first_word-word.ensures c.column.ensures c.in_default.not-Letter

pub returns-in_default-2 : goal.returns-in_default-2
returns-in_default-2 c =
    answers_other c.args.line.now c.in-Letter.ensures
    (no_letter c.in-Letter.letter (λ is. omega arith) (λ is. omega arith) (λ is. omega arith) (λ is. omega arith)
    (λ is. omega arith))

pub returns-in-R : goal.returns-in-R
returns-in-R c =
    answers_made c.args.line.now c.in-Letter.ensures c.behind-rest.result (call.Request 0 0 0) (λ ns. call.Request ns.0 ns.1 ns.2) _ _
    c.behind-rest.ensures.bytes c.behind-rest.ensures.column c.in-R.is (λ _. refl) c.three_numbers-numbers.ensures
    c.map.ensures.cases (λ x d made. search rules)

pub returns-in-C : goal.returns-in-C
returns-in-C c =
    answers_made c.args.line.now c.in-Letter.ensures c.behind-rest.result (call.Confirm 0) call.Confirm _ _
    c.behind-rest.ensures.bytes c.behind-rest.ensures.column c.in-C.is (λ _. refl) c.one_number.ensures
    c.map-in-C.ensures.cases (λ x d made. search rules)

pub returns-in-W : goal.returns-in-W
returns-in-W c =
    answers_made c.args.line.now c.in-Letter.ensures c.behind-rest.result (call.Withdraw 0) call.Withdraw _ _
    c.behind-rest.ensures.bytes c.behind-rest.ensures.column c.in-W.is (λ _. refl) c.one_number-in-W.ensures
    c.map-in-W.ensures.cases (λ x d made. search rules)

pub returns-in-A : goal.returns-in-A
returns-in-A c =
    answers_made c.args.line.now c.in-Letter.ensures c.behind-rest.result (call.Arrive 0) call.Arrive _ _
    c.behind-rest.ensures.bytes c.behind-rest.ensures.column c.in-A.is (λ _. refl) c.one_number-in-A.ensures
    c.map-in-A.ensures.cases (λ x d made. search rules)

pub returns-in-L : goal.returns-in-L
returns-in-L c =
    answers_made c.args.line.now c.in-Letter.ensures c.behind-rest.result call.List (λ _. call.List) _ _
    c.behind-rest.ensures.bytes c.behind-rest.ensures.column c.in-L.is (λ _. refl) c.end.ensures
    c.map-in-L.ensures.cases (λ x d made. search rules)
