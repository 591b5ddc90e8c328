use Rattle.std.proofs.Common.{sym, refl, ◌∙◌, subst, arith}
use Rattle.bookings.specs.Registers.{Follows, Leads}
use Rattle.bookings.specs.States.{needed}
use Rattle.bookings.specs.Steps.{listed}
use Rattle.bookings.proofs.Acting.{done_ended, done_moved}
use Rattle.bookings.proofs.Places.{stands_here, stands_nowhere}
use Rattle.bookings.proofs.register.Register.act.Goals as goal
use Rattle.bookings.proofs.register.Register.act.Goals.{in-To, in-Withdrawn, in-Arrived}

pub returns-in_err-place : goal.returns-in_err-place
returns-in_err-place c =
    let g = c.args.self.now in
    let nowhere = stands_nowhere c.args.number (needed c.args.act) (listed g) (sym c.in_err-place.was ∙ c.place.ensures) in
    rw c.from_residual.ensures (nowhere, refl)

pub returns-in_err-state : goal.returns-in_err-state
returns-in_err-state c =
    let g = c.args.self.now in
    let found = sym c.in_ok-place.was ∙ c.place.ensures in
    let follows = subst (Follows _ c.args.act) c.in_err-state.was c.next_state.ensures in
    let elsewhere = stands_here c.args.number (listed g) _ _ found c.index-booking.ensures (needed c.args.act) ∙ follows in
    rw c.from_residual-in_err-state.ensures (elsewhere, refl)

pub returns : goal.returns
returns c =
    let g = c.args.self.now in
    let found = sym c.in_ok-place.was ∙ c.place.ensures in
    let follows = subst (Follows _ c.args.act) c.in_ok-state.was c.next_state.ensures in
    elim c.match-branch-3.branch [
      | in-To w ↦
          let leads = subst (Leads c.args.act) w.in-To.is follows.1 in
          rw w.self-is
          (done_moved g _ c.args.act c.args.number _ _ found c.index-booking.ensures follows.0 refl (omega (arith, leads.1))
          (omega (arith, leads.2)) w.in-To.state _ w.index_mut.ensures.value leads.0 refl)
      | in-Withdrawn w ↦
          let leads = subst (Leads c.args.act) w.in-Withdrawn.is follows.1 in
          rw w.self-is
          (done_ended g _ c.args.act c.args.number _ _ found c.index-booking.ensures follows.0 refl (omega (arith, leads.1))
          (omega (arith, leads.2)) leads.0 w.remove.ensures.items)
      | in-Arrived w ↦
          let leads = subst (Leads c.args.act) w.in-Arrived.is follows.1 in
          rw w.self-is
          (done_ended g _ c.args.act c.args.number _ _ found c.index-booking.ensures follows.0 refl (omega (arith, leads.1))
          (omega (arith, leads.2)) leads.0 w.remove-in-Arrived.ensures.items)
    ]
