use Rattle.std.proofs.Common.{◌≤◌, length}
use Rattle.sheet_report.proofs.input.read_start.Given as goal

abbrev pub invariant-loop : goal.invariant-loop
invariant-loop g l = l.count ≤ length l.memory
