use Rattle.std.proofs.Common.{◌≡◌, ◌≤◌, not, ltb, drop, length, replicate, sym, ap, ◌∙◌, arith}
use Rattle.std.proofs.lemmas.Bool.{leb-false, leb-true}
use Rattle.std.proofs.lemmas.Bool.Decides.{nat_tests}
use Rattle.plan.specs.Limits.{most_legs}
use Rattle.book.specs.Bottom.{no_legs}
use Rattle.book.specs.ShownPlan.{shown_of}
use Rattle.leg_book.specs.Records.{in_plan, no_record, part_used, suffices}
use Rattle.leg_book.proofs.Stores.{all_unused, counts_none, filled, legs_none, no_leg_at}
use Rattle.leg_book.proofs.legs.LegBook.new.Goals as goal
use Rattle.leg_book.proofs.legs.LegBook.new.Goals.{then-memory_suffices, else-memory_suffices}

pub invariant_of-result : goal.invariant_of-result
invariant_of-result c =
    let s = shown_of c.new.result in
    let memory = c.if-memory_suffices.memory in
    let long = c.if-memory_suffices.auto.memory in
    let cleared : most_legs ≤ length memory → part_used memory ≡ replicate most_legs no_record =
    elim c.if-memory_suffices.branch [
      | then-memory_suffices w ↦ λ _.
          (filled _ _ _ (leb-true _ _ (sym w.if-memory_suffices.ensures))
          (w.fill.ensures.after (λ y is. is) ∙ ap (replicate _) w.unused.ensures) w.memory-is).0
      | else-memory_suffices w ↦ λ enough.
          let short = leb-false _ _ (sym w.if-memory_suffices.ensures) in absurd (omega (arith, long, enough, short))
    ] in
    record {
      legal = λ enough k. ap (in_plan s) (all_unused s memory cleared enough k);
      small = λ enough i e. omega (arith, no_leg_at s memory cleared enough i e);
      counted = sym (counts_none s memory cleared);
      few = omega arith;
    }

pub returns-clause-meaning : goal.returns-clause-meaning
returns-clause-meaning c =
    let s = shown_of c.new.result in
    let memory = c.if-memory_suffices.memory in
    let long = c.if-memory_suffices.auto.memory in
    let cleared : most_legs ≤ length memory → part_used memory ≡ replicate most_legs no_record =
    elim c.if-memory_suffices.branch [
      | then-memory_suffices w ↦ λ _.
          (filled _ _ _ (leb-true _ _ (sym w.if-memory_suffices.ensures))
          (w.fill.ensures.after (λ y is. is) ∙ ap (replicate _) w.unused.ensures) w.memory-is).0
      | else-memory_suffices w ↦ λ enough.
          let short = leb-false _ _ (sym w.if-memory_suffices.ensures) in absurd (omega (arith, long, enough, short))
    ] in
    let short : not (suffices memory) ≡ ltb (length c.args.memory.now) most_legs = grind (arith, nat_tests, long) in
    legs_none s memory cleared ∙ ap (no_legs s) short
    ∙ ap (λ x. no_legs x (ltb (length c.args.memory.now) most_legs)) c.new.ensures

pub returns-clause-rest : goal.returns-clause-rest
returns-clause-rest c =
    elim c.if-memory_suffices.branch [
      | then-memory_suffices w ↦
          (filled _ _ _ (leb-true _ _ (sym w.if-memory_suffices.ensures))
          (w.fill.ensures.after (λ y is. is) ∙ ap (replicate _) w.unused.ensures) w.memory-is).1
      | else-memory_suffices w ↦ ap (drop most_legs) w.memory-is
    ]
