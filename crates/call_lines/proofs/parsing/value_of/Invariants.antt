use Rattle.std.proofs.Common.{◌≡◌, ◌≤◌, take}
use Rattle.call_lines.specs.Grammar.{most_digits, most_number, read_on}
use Rattle.call_lines.proofs.parsing.value_of.Given as goal

abbrev pub invariant-loop-place : goal.invariant-loop-place
invariant-loop-place l =
    (l.value ≡ read_on 0 (take l.place l.digits)) × (l.value ≤ most_number) × (l.place ≤ most_digits)
