use Rattle.std.proofs.Common.{length, ap}
use Rattle.histories.proofs.Numbers.{numbered_none}
use Rattle.histories.proofs.Tallies.{matched_none}
use Rattle.rehearsal.proofs.TokenLists.{none_out}
use Rattle.rehearsal.proofs.caller.Caller.new.Goals as goal

pub invariant_of-result : goal.invariant_of-result
invariant_of-result g c =
    let begins = c.in_ok-controller.ensures.1 in
    record {
      matched =
          matched_none _ _ _ begins.none (none_out _ (ap length c.in-Ok.ensures.items))
          (none_out _ (ap length c.in-Ok-with_capacity.ensures.items));
      numbered = numbered_none _ _ begins.none;
    }
