-- What a run comes to once its tokens are parked.
use Rattle.std.proofs.Common.{◌≡◌, List, map, sym, ap, ◌∙◌, subst}
use Rattle.book.specs.Meaning.{Meaning, total}
use Rattle.bookings.specs.declared.calls.Call.{Call}
use Rattle.bookings.specs.declared.calls.Exchange.{Exchange}
use Rattle.bookings.specs.declared.register.Register.{Register}
use Rattle.histories.specs.Courses.{Going, Recorded}
use Rattle.histories.specs.Parked.{AllParked, parked}
use Rattle.histories.proofs.Courses.{going_promise}
use Rattle.histories.proofs.Parking.{going_parked}
use Rattle.rehearsal.specs.Rehearsed.{Rehearsed}

pub rehearsed : (w m m' : Meaning) (f g : Register) (xs ys : List Exchange) (calls : List Call)
    → Recorded f xs → AllParked m f m' g → ys ≡ xs → map (λ x. x.call) xs ≡ calls
    → (total w ≡ 0 → Going w m xs) → Rehearsed w calls m' g ys
rehearsed w m m' f g xs ys calls recorded all same made going =
    subst (Rehearsed w calls m' g) (sym same) record {
      made = made;
      lists = all.lists ∙ ap parked recorded.owes;
      granted = all.last ∙ recorded.granted;
      withdrawn = all.withdrawn ∙ recorded.withdrawn;
      arrived = all.arrived ∙ recorded.arrived;
      promise = λ none. going_promise w m' xs (going_parked w m m' f g xs recorded.owes all (going none));
    }
