use Rattle.plan.specs.Content.{content}
use Rattle.sheet.specs.Format.{closure_layout, segment_layout}
use Rattle.sheet.specs.Records.{told_all}
use Rattle.sheet.proofs.Additions.{ClosuresLeft, SegmentsLeft}
use Rattle.sheet.proofs.reading.fill.Given as goal

abbrev pub invariant-loop-segment : goal.invariant-loop-segment
invariant-loop-segment l =
    goal.iterator-loop-segment.can_next l.segment-iterator
    × goal.iterator-loop-segment.is_finite l.segment-iterator
    × SegmentsLeft (content l.initial.plan) (told_all segment_layout l.sections.segments.now)
    (content l.plan) (told_all segment_layout l.segment-iterator.rest.now)

abbrev pub invariant-loop-closure : goal.invariant-loop-closure
invariant-loop-closure l =
    goal.iterator-loop-closure.can_next l.closure-iterator
    × goal.iterator-loop-closure.is_finite l.closure-iterator
    × ClosuresLeft (content l.initial.plan) (told_all closure_layout l.sections.closures.now)
    (content l.plan) (told_all closure_layout l.closure-iterator.rest.now)
