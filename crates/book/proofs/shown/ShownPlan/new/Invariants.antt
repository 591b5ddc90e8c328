use Rattle.std.proofs.Common.{◌≡◌, take}
use Rattle.plan.specs.Content.{content}
use Rattle.book.specs.Shown.{plan_shown, roads_of}
use Rattle.book.proofs.shown.ShownPlan.new.Given as goal

abbrev pub invariant-loop-number : goal.invariant-loop-number
invariant-loop-number l = roads_of l.numbers.items ≡ take l.number (plan_shown (content l.plan)).roads
