use Rattle.std.proofs.Common.{◌≡◌, ◌+◌, None, sym, ap, ◌∙◌, arith}
use Rattle.plan.specs.Rules.{first_broken}
use Rattle.sheet.specs.Records.{size, told_all}
use Rattle.sheet.specs.Verdict.{passed, record_rules}
use Rattle.sheet.proofs.Contents.{next_broken, next_sound}
use Rattle.sheet.proofs.checking.check_parts.Goals as goal

pub returns-in-Some-refusal : goal.returns-in-Some-refusal
returns-in-Some-refusal g c =
    let rules = g.R.Part.rules c.args.settings c.args.segments in
    let loop = c.loop-part in
    let refused = c.in-Some-refusal in
    let broken = next_broken g.R.Record.layout rules c.args.section loop.place loop.part-iterator.rest.now c.in-Some.part
    c.next.new.self.rest.now refused.refusal c.in-Some.ensures.steps (sym refused.ensures) in
    sym (ap passed (loop.invariant.2 ∙ broken))

pub loop-part-preserved : goal.loop-part-preserved
loop-part-preserved g c =
    let layout = g.R.Record.layout in
    let rules = g.R.Part.rules c.args.settings c.args.segments in
    let loop = c.loop-part in
    let left = c.next.new.self.rest.now in
    let none : first_broken (rules c.in-Some.part) ≡ None = sym c.refusal.ensures ∙ c.in_default.is in
    let sound = next_sound layout rules c.args.section loop.place loop.part-iterator.rest.now c.in-Some.part left
    c.in-Some.ensures.steps none in
    let sized = g.met.R.Record.sized in
    let section = record_rules rules c.args.section (size layout.widths) in (
      tt,
      tt,
      loop.invariant.2
          ∙ sound
          ∙ ap (λ n. first_broken (section (loop.place + n) (told_all layout left))) sized,
      omega (arith, loop.invariant.3, c.in-Some.ensures.steps.0, sized),
    )
