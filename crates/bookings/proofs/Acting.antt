-- An act on the booking b, which stands at place i as the first with the number n.
use Rattle.std.proofs.Common.{◌≡◌, ℕ, ◌+◌, true, eqb, get_or, set, Some, None, sym, ap, ◌∙◌, ◌==◌}
use Rattle.std.proofs.lemmas.List.{get_or_default}
use Rattle.std.specs.List.{position, remove}
use Rattle.bookings.specs.Owed.{changed, in_state}
use Rattle.bookings.specs.Registers.{DoneWith}
use Rattle.bookings.specs.States.{arrivals, code, leads_to, needed, withdrawals}
use Rattle.bookings.specs.Steps.{listed}
use Rattle.bookings.specs.declared.register.Register.{Register}
use Rattle.bookings.specs.declared.states.Act.{Act}
use Rattle.bookings.specs.declared.states.Booking.{Booking}
use Rattle.bookings.specs.declared.states.State.{State}
use Rattle.bookings.proofs.Places.{legs_here, moved_here, stands_here, within, without_here}

module _ (g g' : Register) (act : Act) (n i : ℕ) (b : Booking)
    (found : Some i ≡ position (λ (x : Booking). x.number == n) (listed g)) (read : b ≡ get_or (listed g) i b)
    (fits : eqb (code b.state) (code (needed act)) ≡ true) (last : g'.last ≡ g.last)
    (withdrawn : g'.withdrawn ≡ g.withdrawn + withdrawals act) (arrived : g'.arrived ≡ g.arrived + arrivals act) where
  done_here : listed g' ≡ changed (leads_to act) n (listed g) → DoneWith g act n b.route g'
  done_here items = record {
    stood = stands_here n (listed g) i b found read (needed act) ∙ fits;
    items = items;
    legs = sym (legs_here n (listed g) i b found read);
    last = last;
    withdrawn = withdrawn;
    arrived = arrived;
  }

  -- b is read once more to be written
  pub done_moved : (s : State) (again : Booking) → again ≡ get_or (listed g) i again → leads_to act ≡ Some s
      → listed g' ≡ set (listed g) i (in_state again s) → DoneWith g act n b.route g'
  done_moved s again read_again leads items =
      let same : again ≡ b = read_again ∙ get_or_default (listed g) i again b (within n (listed g) i b found read) ∙ sym read in
      done_here
      (items
      ∙ ap (λ (x : Booking). set (listed g) i (in_state x s)) same
      ∙ sym (moved_here n (listed g) i b found read s)
      ∙ ap (λ next. changed next n (listed g)) (sym leads))

  pub done_ended : leads_to act ≡ None → listed g' ≡ remove (listed g) i → DoneWith g act n b.route g'
  done_ended leads items =
      done_here
      (items
      ∙ sym (without_here n (listed g) i b found read)
      ∙ ap (λ next. changed next n (listed g)) (sym leads))
