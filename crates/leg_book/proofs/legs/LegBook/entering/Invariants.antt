use Rattle.std.proofs.Common.{◌≡◌, ℕ, ◌<◌, length, get_or, take}
use Rattle.plan.specs.Limits.{most_slots}
use Rattle.leg_book.specs.Records.{count_at}
use Rattle.leg_book.proofs.legs.LegBook.entering.Given as goal

abbrev pub invariant-loop-record : goal.invariant-loop-record
invariant-loop-record l = record {
  long : length l.table ≡ most_slots;
  counts : (e : ℕ) → e < most_slots → get_or l.table e 0 ≡ count_at (take l.record-index l.part) l.segment e;
}
