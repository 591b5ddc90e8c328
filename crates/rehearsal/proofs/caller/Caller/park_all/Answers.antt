use Rattle.std.proofs.Common.{refl, arith}
use Rattle.bookings.specs.declared.states.Act.TheVariants.{ParkHold, ParkPassage}
use Rattle.histories.proofs.Parking.{all_parked, token_parked}
use Rattle.rehearsal.proofs.Acting.{accepted}
use Rattle.rehearsal.proofs.TokenLists.{last_taken, none_out}
use Rattle.rehearsal.proofs.caller.Caller.park_all.Goals as goal

pub unwrap-requires : goal.unwrap-requires
unwrap-requires g c =
    let parking = c.loop-hold.invariant in
    (accepted ParkHold _ (last_taken _ c.in-Some.hold _ c.in-Some.ensures.items) parking.matched.held
    parking.numbered c.park.ensures.step).0

pub loop-hold-preserved : goal.loop-hold-preserved
loop-hold-preserved g c =
    let parking = c.loop-hold.invariant in
    let taken = last_taken _ c.in-Some.hold _ c.in-Some.ensures.items in
    let step = (accepted ParkHold _ taken parking.matched.held parking.numbered c.park.ensures.step).1 in
    token_parked _ _ _ _ _ _ _ _ _ _ _ ParkHold refl refl refl parking step (λ k. omega (arith, taken.left k)) (λ k. omega arith)

pub unwrap-requires-in-Some-pop : goal.unwrap-requires-in-Some-pop
unwrap-requires-in-Some-pop g c =
    let parking = c.loop-passage.invariant _ _ _ c.loop-hold.invariant in
    (accepted ParkPassage _ (last_taken _ c.in-Some-pop.passage _ c.in-Some-pop.ensures.items)
    parking.matched.under_way parking.numbered c.park-in-Some-pop.ensures.step).0

pub loop-passage-preserved : goal.loop-passage-preserved
loop-passage-preserved g c = λ m f H before.
    let parking = c.loop-passage.invariant m f H before in
    let taken = last_taken _ c.in-Some-pop.passage _ c.in-Some-pop.ensures.items in
    let step = (accepted ParkPassage _ taken parking.matched.under_way parking.numbered c.park-in-Some-pop.ensures.step).1 in
    token_parked _ _ _ _ _ _ _ _ _ _ _ ParkPassage refl refl refl parking step (λ k. omega arith) (λ k. omega (arith, taken.left k))

pub returns : goal.returns
returns g c =
    all_parked _ _ _ _ _ _ (c.loop-passage.invariant _ _ _ c.loop-hold.invariant)
    (none_out _ (omega (arith, c.loop-hold.holds.ok.0, c.in_default.ensures.cases.0)))
    (none_out _ (omega (arith, c.loop-passage.passages.ok.0, c.in_default-pop.ensures.cases.0)))
