use Rattle.std.proofs.Common.{◌≡◌, take}
use Rattle.plan.specs.Content.{content}
use Rattle.layers.proofs.closures.ClosureLayer.new.Given as goal

abbrev pub invariant-loop-closure : goal.invariant-loop-closure
invariant-loop-closure g l = l.closures.items ≡ take l.closure-index (content l.plan).closures
