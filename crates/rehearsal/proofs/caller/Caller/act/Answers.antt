use Rattle.std.proofs.Common.{refl, ◌∙◌, arith}
use Rattle.bookings.specs.declared.states.Act.TheVariants.{
  Arrive,
  Confirm,
  ParkHold,
  ParkPassage,
  TakeUpHold,
  TakeUpPassage,
  Withdraw,
}
use Rattle.histories.proofs.Numbers.{numbered_next}
use Rattle.histories.proofs.Tallies.{matched_done}
use Rattle.rehearsal.proofs.Acting.{accepted, missing}
use Rattle.rehearsal.proofs.TokenLists.{put_in}
use Rattle.rehearsal.proofs.caller.Caller.act.Goals as goal

-- ---- Confirm

pub unwrap-passage-requires : goal.unwrap-passage-requires
unwrap-passage-requires g c =
    (accepted Confirm _ c.in-Some.ensures.taken c.args.self.now.matched.held c.args.self.now.numbered
    c.confirm.ensures.step).0

pub invariant_of-self : goal.invariant_of-self
invariant_of-self g c =
    let taken = c.in-Some.ensures.taken in
    let step = (accepted Confirm _ c.in-Some.ensures.taken c.args.self.now.matched.held c.args.self.now.numbered
    c.confirm.ensures.step).1 in
    let number = rw c.unwrap-passage.ensures at c.confirm.ensures.token in
    let put = put_in _ _ _ _ c.push_reserved.ensures.items (number ∙ taken.is) in
    record {
      matched =
          matched_done _ _ _ _ _ _ c.args.self.now.matched Confirm c.args.number step.answers step.owes
          (λ k. omega (arith, taken.left k)) (λ k. omega (arith, put k));
      numbered = numbered_next step c.args.self.now.numbered;
    }

pub returns-in-None-clause-made : goal.returns-in-None-clause-made
returns-in-None-clause-made g c =
    missing Confirm _ c.in-Confirm.is refl c.args.self.now.matched.held c.in-None.ensures.taken.0

-- ---- Withdraw

pub unwrap-requires : goal.unwrap-requires
unwrap-requires g c =
    (accepted Withdraw _ c.in-Some-take_token.ensures.taken c.args.self.now.matched.held c.args.self.now.numbered
    c.withdraw.ensures.step).0

pub invariant_of-self-in-Some-take_token : goal.invariant_of-self-in-Some-take_token
invariant_of-self-in-Some-take_token g c =
    let taken = c.in-Some-take_token.ensures.taken in
    let step = (accepted Withdraw _ c.in-Some-take_token.ensures.taken c.args.self.now.matched.held c.args.self.now.numbered
    c.withdraw.ensures.step).1 in
    record {
      matched =
          matched_done _ _ _ _ _ _ c.args.self.now.matched Withdraw c.args.number step.answers step.owes
          (λ k. omega (arith, taken.left k)) (λ k. omega arith);
      numbered = numbered_next step c.args.self.now.numbered;
    }

pub returns-in-None-take_token-clause-made : goal.returns-in-None-take_token-clause-made
returns-in-None-take_token-clause-made g c =
    missing Withdraw _ c.in-Withdraw.is refl c.args.self.now.matched.held c.in-None-take_token.ensures.taken.0

-- ---- Arrive

pub unwrap-requires-in-Some-take_token-2 : goal.unwrap-requires-in-Some-take_token-2
unwrap-requires-in-Some-take_token-2 g c =
    (accepted Arrive _ c.in-Some-take_token-2.ensures.taken c.args.self.now.matched.under_way c.args.self.now.numbered
    c.arrive.ensures.step).0

pub invariant_of-self-in-Some-take_token-2 : goal.invariant_of-self-in-Some-take_token-2
invariant_of-self-in-Some-take_token-2 g c =
    let taken = c.in-Some-take_token-2.ensures.taken in
    let step = (accepted Arrive _ c.in-Some-take_token-2.ensures.taken c.args.self.now.matched.under_way c.args.self.now.numbered
    c.arrive.ensures.step).1 in
    record {
      matched =
          matched_done _ _ _ _ _ _ c.args.self.now.matched Arrive c.args.number step.answers step.owes
          (λ k. omega arith) (λ k. omega (arith, taken.left k));
      numbered = numbered_next step c.args.self.now.numbered;
    }

pub returns-in-None-take_token-2-clause-made : goal.returns-in-None-take_token-2-clause-made
returns-in-None-take_token-2-clause-made g c =
    missing Arrive _ c.in-Arrive.is refl c.args.self.now.matched.under_way c.in-None-take_token-2.ensures.taken.0

-- ---- ParkHold

pub unwrap-requires-in-Some-take_token-3 : goal.unwrap-requires-in-Some-take_token-3
unwrap-requires-in-Some-take_token-3 g c =
    (accepted ParkHold _ c.in-Some-take_token-3.ensures.taken c.args.self.now.matched.held c.args.self.now.numbered
    c.park.ensures.step).0

pub invariant_of-self-in-Some-take_token-3 : goal.invariant_of-self-in-Some-take_token-3
invariant_of-self-in-Some-take_token-3 g c =
    let taken = c.in-Some-take_token-3.ensures.taken in
    let step = (accepted ParkHold _ c.in-Some-take_token-3.ensures.taken c.args.self.now.matched.held c.args.self.now.numbered
    c.park.ensures.step).1 in
    record {
      matched =
          matched_done _ _ _ _ _ _ c.args.self.now.matched ParkHold c.args.number step.answers step.owes
          (λ k. omega (arith, taken.left k)) (λ k. omega arith);
      numbered = numbered_next step c.args.self.now.numbered;
    }

pub returns-in-None-take_token-3-clause-made : goal.returns-in-None-take_token-3-clause-made
returns-in-None-take_token-3-clause-made g c =
    missing ParkHold _ c.in-ParkHold.is refl c.args.self.now.matched.held c.in-None-take_token-3.ensures.taken.0

-- ---- ParkPassage

pub unwrap-requires-in-Some-take_token-4 : goal.unwrap-requires-in-Some-take_token-4
unwrap-requires-in-Some-take_token-4 g c =
    (accepted ParkPassage _ c.in-Some-take_token-4.ensures.taken c.args.self.now.matched.under_way c.args.self.now.numbered
    c.park-in-Some-take_token-4.ensures.step).0

pub invariant_of-self-in-Some-take_token-4 : goal.invariant_of-self-in-Some-take_token-4
invariant_of-self-in-Some-take_token-4 g c =
    let taken = c.in-Some-take_token-4.ensures.taken in
    let step = (accepted ParkPassage _ c.in-Some-take_token-4.ensures.taken c.args.self.now.matched.under_way c.args.self.now.numbered
    c.park-in-Some-take_token-4.ensures.step).1 in
    record {
      matched =
          matched_done _ _ _ _ _ _ c.args.self.now.matched ParkPassage c.args.number step.answers step.owes
          (λ k. omega arith) (λ k. omega (arith, taken.left k));
      numbered = numbered_next step c.args.self.now.numbered;
    }

pub returns-in-None-take_token-4-clause-made : goal.returns-in-None-take_token-4-clause-made
returns-in-None-take_token-4-clause-made g c =
    missing ParkPassage _ c.in-ParkPassage.is refl c.args.self.now.matched.under_way c.in-None-take_token-4.ensures.taken.0

-- ---- TakeUpHold

pub invariant_of-self-in-Ok : goal.invariant_of-self-in-Ok
invariant_of-self-in-Ok g c =
    let step = c.in-Ok.ensures.step in
    let put = put_in _ _ _ _ c.push_reserved-in-Ok.ensures.items c.in-Ok.ensures.token in
    record {
      matched =
          matched_done _ _ _ _ _ _ c.args.self.now.matched TakeUpHold c.args.number step.answers step.owes
          (λ k. omega (arith, put k)) (λ k. omega arith);
      numbered = numbered_next step c.args.self.now.numbered;
    }

-- ---- TakeUpPassage

pub invariant_of-self-in-Ok-take_up : goal.invariant_of-self-in-Ok-take_up
invariant_of-self-in-Ok-take_up g c =
    let step = c.in-Ok-take_up.ensures.step in
    let put = put_in _ _ _ _ c.push_reserved-in-Ok-take_up.ensures.items c.in-Ok-take_up.ensures.token in
    record {
      matched =
          matched_done _ _ _ _ _ _ c.args.self.now.matched TakeUpPassage c.args.number step.answers step.owes
          (λ k. omega arith)
          (λ k. omega (arith, put k));
      numbered = numbered_next step c.args.self.now.numbered;
    }
