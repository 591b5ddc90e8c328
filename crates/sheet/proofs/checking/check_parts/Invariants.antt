use Rattle.std.proofs.Common.{◌≡◌, ◌+◌, ◌≤◌, length}
use Rattle.plan.specs.Rules.{first_broken}
use Rattle.sheet.specs.Records.{size, told_all}
use Rattle.sheet.specs.Verdict.{record_rules}
use Rattle.sheet.proofs.checking.check_parts.Given as goal

-- what is left to check decides what the whole section decides
abbrev pub invariant-loop-part : goal.invariant-loop-part
invariant-loop-part g l =
    let layout = g.R.Record.layout in
    let rules = record_rules (g.R.Part.rules l.settings l.segments) l.section (size layout.widths) in
    (goal.iterator-loop-part g).can_next l.part-iterator
    × (goal.iterator-loop-part g).is_finite l.part-iterator
    × (first_broken (rules l.start (told_all layout l.bytes))
    ≡ first_broken (rules l.place (told_all layout l.part-iterator.rest.now)))
    × (l.place + length l.part-iterator.rest.now ≤ l.start + length l.bytes)
