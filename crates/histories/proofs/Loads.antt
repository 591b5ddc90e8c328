-- Loads stay within the critical counts.
use Rattle.std.proofs.Common.{◌≡◌, ℕ, true, ◌≢◌, List, [], ◌∷◌, Some, None, Option, sym, refl, ◌∙◌, subst}
use Rattle.std.specs.List.{AllByRecursion}
use Rattle.book.specs.Loads.{Within, admissible}
use Rattle.book.specs.Meaning.{Meaning, Sound, plus}
use Rattle.book.specs.declared.legs.Leg.{Leg}
use Rattle.book.proofs.Loading.{others_stay_admissible, within_stays}
use Rattle.search.specs.Routes.{legs_of}
use Rattle.walks.specs.Walks.{Different, segments_of}
use Rattle.bookings.specs.Answers.{Answers}
use Rattle.bookings.specs.Owed.{after, changed, done, legs_by_number, more, over, without}
use Rattle.bookings.specs.declared.calls.Answer.{Answer}
use Rattle.bookings.specs.declared.calls.Answer.TheVariants.{Done, Granted, NoToken, Refused}
use Rattle.bookings.specs.declared.calls.Call.{Call}
use Rattle.bookings.specs.declared.calls.Call.TheVariants as call
use Rattle.bookings.specs.declared.states.Booking.{Booking}
use Rattle.bookings.specs.declared.states.State.{State}
use Rattle.bookings.proofs.Granting.{granted_reservable}
use Rattle.bookings.proofs.Owing.{over_granted, over_moved, over_without}

-- ---- legs that are reserved and freed

abbrev Admitted : Meaning → List Leg → Type 0
Admitted m ls = AllByRecursion (λ l. admissible m l ≡ true) ls

-- a leg leaves those of other segments admissible
admitted_beside : (m : Meaning) (l : Leg) (ls : List Leg) → Admitted m ls
    → AllByRecursion (λ i. i ≢ l.segment) (segments_of ls) → Admitted (plus m l) ls
admitted_beside m l [] admitted apart = tt
admitted_beside m l (k ∷ ls) admitted apart = (
  others_stay_admissible m l k (λ same. apart.0 (sym same)) ∙ admitted.0,
  admitted_beside m l ls admitted.1 apart.1,
)

within_more : (m : Meaning) (ls : List Leg) → Within m → Admitted m ls → Different (segments_of ls) → Within (more m ls)
within_more m [] within admitted apart = within
within_more m (l ∷ ls) within admitted apart =
    within_more (plus m l) ls ((within_stays m l).0 within admitted.0)
    (admitted_beside m l ls admitted.1 apart.0) apart.1

within_less : (m : Meaning) (ls : List Leg) → Within (more m ls) → Within m
within_less m [] within = within
within_less m (l ∷ ls) within = (within_stays m l).1 (within_less (plus m l) ls within)

-- ---- after a call and its answer

within_changed : (w : Meaning) (next : Option State) (n : ℕ) (bs : List Booking) → Within (over w bs)
    → Within (over w (changed next n bs))
within_changed w (Some s) n bs within = subst Within (over_moved w n (Some s) s bs refl) within
within_changed w None n bs within =
    within_less (over w (without n bs)) (legs_by_number n bs) (subst Within (over_without w n bs) within)

within_done : (w : Meaning) (c : Call) (bs : List Booking) → Within (over w bs) → Within (over w (done c bs))
within_done w (call.Ask q room) bs within = within
within_done w (call.Act act n) bs within = within_changed w _ n bs within

pub within_after : (w : Meaning) (bs : List Booking) (k : ℕ) (c : Call) (a : Answer) → Sound (over w bs)
    → Answers (over w bs) bs k c a → Within (over w bs) → Within (over w (after c a bs))
within_after w bs k (call.Ask q room) (Granted n r) sound answers within =
    let grants = answers.1 in
    let free = granted_reservable (over w bs) sound q (legs_of r) grants.granted grants.fits in
    subst Within (over_granted w bs _) (within_more (over w bs) (legs_of r) within free.admitted free.apart)
within_after w bs k (call.Act act n) (Granted number r) sound answers within = absurd answers
within_after w bs k c Done sound answers within = within_done w c bs within
within_after w bs k c (Refused x) sound answers within = within
within_after w bs k c NoToken sound answers within = within
