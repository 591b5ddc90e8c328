-- Two histories that owe the same routes: their books mean the same, and answer a request alike.
use Rattle.std.proofs.Common.{◌≡◌, ℕ, ◌+◌, ltb, List, [], ◌∷◌, map, length, sum_by, sym, refl, ap, ◌∙◌, subst, arith}
use lib.ListN.{length-map}
use Rattle.std.specs.List.Sorted.{IsPermutation}
use Rattle.std.proofs.lemmas.List.Sorted.{length_permutation, sum_by-IsPermutation}
use Rattle.std.proofs.lemmas.List.Sums.{sum_by-append, sum_by-cons}
use Rattle.book.specs.Meaning.{Meaning, Shown, one, segments}
use Rattle.book.specs.declared.legs.Leg.{Leg}
use Rattle.book.proofs.Reserving.{same_meaning}
use Rattle.search.specs.Routes.{legs_of}
use Rattle.bookings.specs.Answers.{Decided}
use Rattle.bookings.specs.Owed.{bare, over, owed, owed_legs}
use Rattle.bookings.specs.declared.states.Booking.{Booking}
use Rattle.bookings.specs.declared.calls.Exchange.{Exchange}
use Rattle.histories.specs.Promise.{Promise, SameAnswers, grants}
use Rattle.histories.proofs.Answering.{before_same, outcome_unique}
use Rattle.histories.proofs.Legs.{more_bars, more_shown, more_standing, often}

abbrev legs_of_each : List Booking → List (List Leg)
legs_of_each bs = map (λ b. legs_of b.route) bs

-- each route counts once, so the order does not matter
often_owed : (bs : List Booking) (i e : ℕ) → often (owed_legs bs) i e ≡ sum_by (λ ls. often ls i e) (legs_of_each bs)
often_owed [] i e = refl
often_owed (b ∷ bs) i e =
    sum_by-append (λ l. one l i e) (legs_of b.route) (owed_legs bs)
    ∙ ap (λ n. often (legs_of b.route) i e + n) (often_owed bs i e)
    ∙ sym (sum_by-cons (λ ls. often ls i e) (legs_of b.route) (legs_of_each bs))

over_shuffled : (w v : Meaning) (bs cs : List Booking) → w.shown ≡ v.shown → w.bars ≡ v.bars
    → IsPermutation (legs_of_each bs) (legs_of_each cs) → over w bs ≡ over v cs
over_shuffled w v bs cs plan bars owe =
    same_meaning (over w bs) (over v cs)
    (more_shown (bare w) (owed_legs bs) ∙ plan ∙ sym (more_shown (bare v) (owed_legs cs)))
    (λ i e.
    omega (
      arith,
      more_standing (bare w) (owed_legs bs) i e,
      more_standing (bare v) (owed_legs cs) i e,
      often_owed bs i e,
      often_owed cs i e,
      sum_by-IsPermutation (λ ls. often ls i e) (legs_of_each bs) (legs_of_each cs) owe,
    ))
    (more_bars (bare w) (owed_legs bs) ∙ bars ∙ sym (more_bars (bare v) (owed_legs cs)))

as_many : (bs cs : List Booking) → IsPermutation (legs_of_each bs) (legs_of_each cs) → length bs ≡ length cs
as_many bs cs owe =
    omega (
      arith,
      length_permutation (legs_of_each bs) (legs_of_each cs) owe,
      length-map bs (λ b. legs_of b.route),
      length-map cs (λ b. legs_of b.route),
    )

pub promises_same : (w m v n : Meaning) (history other : List Exchange) → Promise w history m → Promise v other n
    → SameAnswers w history v other
promises_same w m v n history other first second xs ys rest others q room space a b is are labels alike =
    let now = over w (owed xs) in
    let same = over_shuffled w v (owed xs) (owed ys) alike.plan alike.bars alike.owe in
    let plan : now.shown ≡ w.shown = more_shown (bare w) (owed_legs (owed xs)) in
    let suffices : ltb (segments now) room ≡ ltb (segments now) space =
    ap (λ (s : Shown). ltb (length s.roads) room) plan
    ∙ labels
    ∙ ap (λ (s : Shown). ltb (length s.roads) space) (sym (plan ∙ alike.plan)) in
    outcome_unique now q (length (owed xs)) (grants xs) (grants ys) room space (owed xs) (owed ys) a b
    refl
    (sym (as_many (owed xs) (owed ys) alike.owe))
    (before_same now (length (owed xs)) (grants xs) (grants ys) q room space suffices alike.numbers_left.0
    alike.numbers_left.1)
    (first.answers xs _ rest is)
    (subst (λ z. Decided z (owed ys) (grants ys) q space b) (sym same) (second.answers ys _ others are))
