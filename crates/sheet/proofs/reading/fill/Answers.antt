use Rattle.std.proofs.Common.{◌≡◌, ℕ, true, ◌∷◌, length, is_ok, Ok, ap, ◌∙◌, subst, arith}
use Rattle.std.proofs.lemmas.Bool.{cond-true}
use Rattle.plan.specs.Content.{content, numbered}
use Rattle.sheet.specs.Format.{closure_layout, segment_layout}
use Rattle.sheet.specs.Records.{told_all}
use Rattle.sheet.proofs.Additions.{ClosuresLeft, SegmentsLeft, closure_taken, closures_left, segment_taken, segments_left}
use Rattle.sheet.proofs.reading.fill.Goals as goal

-- the addition is not refused
pub returns-in_err-add_segment : goal.returns-in_err-add_segment
returns-in_err-add_segment c =
    let start = content c.args.plan.now in
    let whole = told_all segment_layout c.args.sections.segments.now in
    let before = content c.loop-segment.plan in
    let left = told_all segment_layout c.next.new.self.rest.now in
    let all : SegmentsLeft start whole before (c.in-Some.segment ∷ left) =
    subst (SegmentsLeft start whole before) c.in-Some.ensures.steps.1 c.loop-segment.invariant.2 in
    let taken = segment_taken start whole before c.in-Some.segment left all in
    let number = length before.segments in
    let answer : c.add_segment.result ≡ Ok number =
    c.add_segment.ensures.added.answer ∙ ap (λ o. numbered o number) taken in
    let refused = c.in_err-add_segment.was in
    absurd (let z : ◌≡◌ {A = ℕ} 0 1 = cc in omega arith)

pub loop-segment-preserved : goal.loop-segment-preserved
loop-segment-preserved c =
    let start = content c.args.plan.now in
    let whole = told_all segment_layout c.args.sections.segments.now in
    let before = content c.loop-segment.plan in
    let left = told_all segment_layout c.next.new.self.rest.now in
    let all : SegmentsLeft start whole before (c.in-Some.segment ∷ left) =
    subst (SegmentsLeft start whole before) c.in-Some.ensures.steps.1 c.loop-segment.invariant.2 in
    let ok : is_ok c.add_segment.result ≡ true = ap is_ok c.in_ok-add_segment.was in
    let grown = c.add_segment.ensures.added.grown ∙ cond-true (is_ok c.add_segment.result) _ _ ok in
    (tt, tt, segments_left start whole before c.in-Some.segment left all (content c.add_segment.new.self) grown)

-- the addition is not refused
pub returns-in_err-add_closure : goal.returns-in_err-add_closure
returns-in_err-add_closure c =
    let start = content c.loop-segment.plan in
    let whole = told_all closure_layout c.args.sections.closures.now in
    let before = content c.loop-closure.plan in
    let left = told_all closure_layout c.next-in-loop-closure.new.self.rest.now in
    let all : ClosuresLeft start whole before (c.in-Some-closure.closure ∷ left) =
    subst (ClosuresLeft start whole before) c.in-Some-closure.ensures.steps.1 c.loop-closure.invariant.2 in
    let taken = closure_taken start whole before c.in-Some-closure.closure left all in
    let number = length before.closures in
    let answer : c.add_closure.result ≡ Ok number =
    c.add_closure.ensures.added.answer ∙ ap (λ o. numbered o number) taken in
    let refused = c.in_err-add_closure.was in
    absurd (let z : ◌≡◌ {A = ℕ} 0 1 = cc in omega arith)

pub loop-closure-preserved : goal.loop-closure-preserved
loop-closure-preserved c =
    let start = content c.loop-segment.plan in
    let whole = told_all closure_layout c.args.sections.closures.now in
    let before = content c.loop-closure.plan in
    let left = told_all closure_layout c.next-in-loop-closure.new.self.rest.now in
    let all : ClosuresLeft start whole before (c.in-Some-closure.closure ∷ left) =
    subst (ClosuresLeft start whole before) c.in-Some-closure.ensures.steps.1 c.loop-closure.invariant.2 in
    let ok : is_ok c.add_closure.result ≡ true = ap is_ok c.in_ok-add_closure.was in
    let grown = c.add_closure.ensures.added.grown ∙ cond-true (is_ok c.add_closure.result) _ _ ok in
    (tt, tt, closures_left start whole before c.in-Some-closure.closure left all (content c.add_closure.new.self) grown)
