use Rattle.std.proofs.Common.{is_some, refl, sym, ap, ◌∙◌, arith}
use Rattle.histories.proofs.Numbers.{numbered_next}
use Rattle.histories.proofs.Tallies.{matched_entered}
use Rattle.rehearsal.proofs.Asking.{asked_granted, told_some}
use Rattle.rehearsal.proofs.TokenLists.{put_in}
use Rattle.rehearsal.proofs.caller.Caller.ask.Goals as goal

pub invariant_of-self : goal.invariant_of-self
invariant_of-self g c =
    let granted = c.in-Ok.ensures.step in
    let put = put_in _ _ _ _ c.push_reserved.ensures.items refl in
    record {
      matched =
          matched_entered _ _ _ _ _ _ c.args.self.now.matched _ granted.1.owes (λ k. omega (arith, put k)) (λ k. omega arith);
      numbered = numbered_next granted.1 c.args.self.now.numbered;
    }

pub unwrap-route-requires : goal.unwrap-route-requires
unwrap-route-requires g c =
    let granted = c.in-Ok.ensures.step in
    let some = told_some _ _ _ _ _ _ _ granted.0 c.args.self.now.numbered granted.1 _ c.number-number.ensures in
    ap is_some (c.route.ensures ∙ some)

pub returns-in-Ok-clause-made : goal.returns-in-Ok-clause-made
returns-in-Ok-clause-made g c =
    let granted = c.in-Ok.ensures.step in
    asked_granted _ _ _ _ _ _ _ granted.0 _ _ c.args.self.now.numbered granted.1 c.number-number.ensures
    (sym c.route.ensures ∙ c.unwrap-route.ensures)
