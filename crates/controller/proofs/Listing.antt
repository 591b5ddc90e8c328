-- Events written one after the other.
use Rattle.std.proofs.Common.{◌≡◌, ℕ, ◌+◌, ◌-◌, ◌*◌, ◌<◌, ◌≤◌, List, [], ◌∷◌, ◌++◌, length, get_or, take, drop, Some, None, Ok, Err, Option, Result, sym, refl, ap, ◌∙◌, subst, arith, MatchResult}
use Rattle.std.proofs.lemmas.List.{append_assoc, append-nil, drop_all, drop-append-le, drop-drop, length-append, length-drop, length-take-le, take_all, take-append-le, take_more}
use Rattle.std.proofs.lemmas.List.Sorted.{length_permutation}
use Rattle.std.proofs.lemmas.Slice.{drop-put_mid, take-put_mid}
use Rattle.std.specs.List.Sorted.{IsSortedWithin, IsPermutation}
use Rattle.book.specs.Meaning.{Meaning}
use Rattle.bookings.specs.declared.states.Booking.{Booking}
use Rattle.queue.specs.declared.Full.{Full}
use Rattle.queue_client.specs.Sort.{Sorted, Unsorted}
use Rattle.search.specs.Routes.{legs_of}
use Rattle.controller.specs.Events.{Collected, Event, ListsShift, event_before, events_of, two_events}
use Rattle.controller.specs.Timings.{timing_of}
use Rattle.controller.specs.declared.timings.Timing.{Timing}
use borrow.Rule.Slice.PartMut.{put_mid, same_len_mid}

-- more events, at the k places after the others
collected_more : (events before after more : List Event) (count k : ℕ) → length more ≡ k → count + k ≤ length after
    → Collected events before after count → Collected (events ++ more) before (put_mid count k after more) (count + k)
collected_more events before after more count k long room old =
    let counted = old.counted in
    let middle = length-take-le k (drop count after) (omega (arith, length-drop count after)) in
    record {
      counted = omega (arith, length-append events more);
      fits = omega (arith, same_len_mid count k after more (omega (arith, middle)));
      first =
          take-put_mid count k after more (count + k) (omega arith) (omega arith)
          ∙ ap (λ xs. xs ++ more) old.first;
      rest =
          drop-put_mid count k after more (count + k) (omega arith) (omega arith) long
          ∙ sym (drop-drop k count after)
          ∙ ap (drop k) old.rest
          ∙ drop-drop k count before;
    }

-- the events of one booking more
events_next : (m : Meaning) (bs : List Booking) (b : Booking)
    → events_of m (bs ++ (b ∷ []))
    ≡ events_of m bs ++ two_events b.number (timing_of m (legs_of b.route))
events_next m [] b = append-nil (two_events b.number (timing_of m (legs_of b.route)))
events_next m (x ∷ bs) b =
    ap (λ xs. two_events x.number (timing_of m (legs_of x.route)) ++ xs) (events_next m bs b)
    ∙ sym
    (append_assoc (two_events x.number (timing_of m (legs_of x.route))) (events_of m bs)
    (two_events b.number (timing_of m (legs_of b.route))))

-- after the first i bookings there is room for two events of each of the others
pub record CollectedFrom (m : Meaning) (bs : List Booking) (before after : List Event) (i count : ℕ) : Type 0 where
  pub collected : Collected (events_of m (take i bs)) before after count
  pub room : count + (length bs - i) * 2 ≤ length after
  pub long : length after ≡ length before

pub collected_none : (m : Meaning) (bs : List Booking) (before : List Event) → length bs * 2 ≤ length before
    → CollectedFrom m bs before before 0 0
collected_none m bs before room = record {
  collected = record { counted = refl; fits = omega arith; first = refl; rest = refl };
  room = omega arith;
  long = refl;
}

module _ (m : Meaning) (bs : List Booking) (before after : List Event) (i count : ℕ) (b : Booking)
    (within : i < length bs) (read : b ≡ get_or bs i b) (old : CollectedFrom m bs before after i count) where
  events_so_far : (timing : Option Timing) → timing ≡ timing_of m (legs_of b.route)
      → events_of m (take i bs) ++ two_events b.number timing ≡ events_of m (take (i + 1) bs)
  events_so_far timing is =
      ap (λ t. events_of m (take i bs) ++ two_events b.number t) is
      ∙ sym (events_next m (take i bs) b)
      ∙ ap (events_of m) (sym (take_more bs i b within ∙ ap (λ x. take i bs ++ (x ∷ [])) (sym read)))

  pub collected_neither : None ≡ timing_of m (legs_of b.route) → CollectedFrom m bs before after (i + 1) count
  collected_neither none = record {
    collected =
        subst (λ es. Collected es before after count)
        (sym (append-nil (events_of m (take i bs))) ∙ events_so_far None none) old.collected;
    room = let room = old.room in omega arith;
    long = old.long;
  }

  pub collected_both : (t : Timing) → Some t ≡ timing_of m (legs_of b.route)
      → CollectedFrom m bs before (put_mid count 2 after (two_events b.number (Some t))) (i + 1) (count + 2)
  collected_both t is =
      let room = old.room in
      let fits : count + 2 ≤ length after = omega arith in
      let middle = length-take-le 2 (drop count after) (omega (arith, length-drop count after)) in
      let two = two_events b.number (Some t) in
      let long : length (put_mid count 2 after two) ≡ length after =
      same_len_mid count 2 after two (omega (arith, middle)) in
      record {
        collected =
            subst (λ es. Collected es before (put_mid count 2 after two) (count + 2)) (events_so_far (Some t) is)
            (collected_more (events_of m (take i bs)) before after two count 2 refl fits old.collected);
        room = omega (arith, long);
        long = long ∙ old.long;
      }

-- the events, once they are sorted in their places
pub shift_listed : (events before collected items sorted scratch used post : List Event) (count : ℕ)
    (r : Result (Unit {0}) Full) → Collected events before collected count
    → MatchResult r (λ _. Sorted event_before items sorted scratch used) (λ _. Unsorted items sorted scratch used)
    → items ≡ take count collected → length items ≤ length scratch → post ≡ drop count collected
    → ListsShift events before (sorted ++ post) count
shift_listed events before collected items sorted scratch used post count (Ok _) old done is room behind =
    let counted = old.counted in
    let fits = old.fits in
    let all = length_permutation items sorted done.shuffled in
    let long : length sorted ≡ count = omega (arith, ap length is, length-take-le count collected fits) in
    let whole : take count (sorted ++ post) ≡ sorted =
    take-append-le count sorted post (omega arith) ∙ take_all count sorted (omega arith) in
    record {
      counted = counted;
      shuffled = rw whole (subst (λ xs. IsPermutation xs sorted) (is ∙ old.first) done.shuffled);
      ascends = rw whole (subst (IsSortedWithin event_before sorted 0) long done.ascends);
      rest =
          drop-append-le count sorted post (omega arith)
          ∙ ap (λ xs. xs ++ post) (drop_all count sorted (omega arith))
          ∙ behind
          ∙ old.rest;
    }
shift_listed events before collected items sorted scratch used post count (Err _) old done is room behind =
    absurd (omega (arith, done.short))
