-- The induction over a list of calls: each call keeps what is promised of the whole.
use Rattle.std.proofs.Common.{◌≡◌, ℕ, ◌+◌, Bool, cond, List, [], ◌∷◌, ◌++◌, sym, refl, ap, ◌∙◌, subst, subst₂, ⊎_elim, arith}
use mathlib.Core.Path.{subst₃}
use Rattle.std.proofs.lemmas.Bool.{cases_lt}
use Rattle.book.specs.Below.{sum_below}
use Rattle.book.specs.Loads.{Within, holds as held_at, load_below}
use Rattle.book.specs.Meaning.{Meaning, Sound, horizon, road, segments, total}
use Rattle.book.proofs.Reserving.{same_meaning}
use Rattle.book.proofs.Sums.{le_sum, sum_same, sum_zero}
use Rattle.bookings.specs.Answers.{Answers}
use Rattle.bookings.specs.Owed.{after, all_counted, bare, counted, last_number, number_after, over, owed, owed_from}
use Rattle.bookings.specs.States.{arrivals, withdrawals}
use Rattle.bookings.specs.Steps.{listed}
use Rattle.bookings.specs.declared.calls.Answer.{Answer}
use Rattle.bookings.specs.declared.calls.Answer.TheVariants.{Done, Granted, NoToken, Refused}
use Rattle.bookings.specs.declared.calls.Call.{Call}
use Rattle.bookings.specs.declared.calls.Call.TheVariants as call
use Rattle.bookings.specs.declared.calls.Exchange.{Exchange}
use Rattle.bookings.specs.declared.register.Register.{Register}
use Rattle.bookings.specs.declared.states.Act.{Act}
use Rattle.bookings.specs.declared.states.Booking.{Booking}
use Rattle.histories.specs.Courses.{Course, Going, Made, Recorded, Told}
use Rattle.histories.specs.Promise.{Answered, Promise, grants}
use Rattle.histories.proofs.Answering.{answered_outright}
use Rattle.histories.proofs.Loads.{within_after}

-- ---- one exchange more

pub owed_push : (bs : List Booking) (xs : List Exchange) (x : Exchange)
    → owed_from bs (xs ++ x ∷ []) ≡ after x.call x.answer (owed_from bs xs)
owed_push bs [] x = refl
owed_push bs (y ∷ xs) x = owed_push (after y.call y.answer bs) xs x

last_push : (k : ℕ) (xs : List Exchange) (x : Exchange)
    → last_number k (xs ++ x ∷ []) ≡ number_after x.answer (last_number k xs)
last_push k [] x = refl
last_push k (y ∷ xs) x = last_push (number_after y.answer k) xs x

-- an answer that is a grant gives the next number, and no other gives one
number_counts : (m : Meaning) (bs : List Booking) (k : ℕ) (c : Call) (a : Answer) → Answers m bs k c a
    → number_after a k ≡ k + grants (record { call = c; answer = a } ∷ [])
number_counts m bs k (call.Ask q room) (Granted n r) answers = omega (arith, answers.0)
number_counts m bs k (call.Act act number) (Granted n r) answers = absurd answers
number_counts m bs k c Done answers = omega arith
number_counts m bs k c (Refused x) answers = omega arith
number_counts m bs k c NoToken answers = omega arith

grants_push : (xs : List Exchange) (x : Exchange) → grants (xs ++ x ∷ []) ≡ grants xs + grants (x ∷ [])
grants_push [] x = omega arith
grants_push (y ∷ xs) x = omega (arith, grants_push xs x)

counted_push : (count : Act → ℕ) (xs : List Exchange) (x : Exchange)
    → all_counted count (xs ++ x ∷ []) ≡ all_counted count xs + counted count x.call x.answer
counted_push count [] x = omega arith
counted_push count (y ∷ xs) x = omega (arith, counted_push count xs x)

module _ (w : Meaning) where
  course_push : (bs : List Booking) (k : ℕ) (xs : List Exchange) (x : Exchange) → Course w bs k xs
      → Answers (over w (owed_from bs xs)) (owed_from bs xs) (last_number k xs) x.call x.answer
      → Told (owed_from bs xs) x.call x.answer
      → Within (over w (after x.call x.answer (owed_from bs xs)))
      → Course w bs k (xs ++ x ∷ [])
  course_push bs k [] x course answers told within = (course, answers, told, within)
  course_push bs k (y ∷ xs) x course answers told within = (
    course.0,
    course.1,
    course.2,
    course_push (after y.call y.answer bs) (number_after y.answer k) xs x course.3 answers told within,
  )

  -- ---- what a course says at each of its places

  course_within : (bs : List Booking) (k : ℕ) (front rest : List Exchange) → Course w bs k (front ++ rest)
      → Within (over w (owed_from bs front))
  course_within bs k [] [] course = course
  course_within bs k [] (x ∷ rest) course = course.0
  course_within bs k (x ∷ front) rest course =
      course_within (after x.call x.answer bs) (number_after x.answer k) front rest course.3

  course_end : (bs : List Booking) (k : ℕ) (xs : List Exchange) → Course w bs k xs → Within (over w (owed_from bs xs))
  course_end bs k [] course = course
  course_end bs k (x ∷ xs) course =
      course_end (after x.call x.answer bs) (number_after x.answer k) xs course.3

  course_at : (bs : List Booking) (k : ℕ) (front : List Exchange) (x : Exchange) (rest : List Exchange)
      → Course w bs k (front ++ x ∷ rest)
      → Answers (over w (owed_from bs front)) (owed_from bs front) (last_number k front) x.call x.answer
      × Told (owed_from bs front) x.call x.answer
  course_at bs k [] x rest course = (course.1, course.2)
  course_at bs k (y ∷ front) x rest course =
      course_at (after y.call y.answer bs) (number_after y.answer k) front x rest course.3

  -- as many numbers are given as requests granted
  course_numbers : (bs : List Booking) (k : ℕ) (front rest : List Exchange) → Course w bs k (front ++ rest)
      → last_number k front ≡ k + grants front
  course_numbers bs k [] rest course = omega arith
  course_numbers bs k (x ∷ front) rest course =
      omega (
        arith,
        course_numbers (after x.call x.answer bs) (number_after x.answer k) front rest course.3,
        number_counts (over w bs) bs k x.call x.answer course.1,
      )

  course_answers : (front : List Exchange) (x : Exchange) (rest : List Exchange) → Course w [] 0 (front ++ x ∷ rest)
      → Answers (over w (owed front)) (owed front) (grants front) x.call x.answer
  course_answers front x rest course =
      subst (λ k. Answers (over w (owed front)) (owed front) k x.call x.answer)
      (omega (arith, course_numbers [] 0 front (x ∷ rest) course)) (course_at [] 0 front x rest course).0

  course_answered : (front : List Exchange) (x : Exchange) (rest : List Exchange) → Course w [] 0 (front ++ x ∷ rest)
      → Answered (over w (owed front)) (owed front) (grants front) x.call x.answer
  course_answered front x rest course =
      answered_outright (over w (owed front)) (owed front) (grants front) x.call x.answer
      (course_answers front x rest course) (course_at [] 0 front x rest course).1

-- ---- at the start

-- a sound book whose total is 0 has no leg
none_standing : (w : Meaning) → Sound w → total w ≡ 0 → (i e : ℕ) → w.standing i e ≡ 0
unfolding total
none_standing w sound none i e =
    ⊎_elim
    (λ known.
    ⊎_elim
    (λ early.
    omega (
      arith,
      none,
      le_sum (horizon w) (w.standing i) e early,
      le_sum (segments w) (λ j. sum_below (horizon w) (w.standing j)) i known,
    ))
    (λ late. sound.known_entries i e late)
    (cases_lt e (horizon w)))
    (λ unknown. sound.known_segments i e unknown)
    (cases_lt i (segments w))

load_none : (n u t : ℕ) → load_below n (λ _. 0) u t ≡ 0
unfolding load_below
load_none n u t =
    let each : (b : Bool) → ◌≡◌ {A = ℕ} (cond b 0 0) 0 = λ b. grind arith in
    sum_same n _ (λ _. 0) (λ e. each (held_at e u t)) ∙ sum_zero n

pub going_none : (w m : Meaning) (xs : List Exchange) → Sound w → total w ≡ 0 → m ≡ w → xs ≡ [] → Going w m xs
going_none w m xs sound none same empty =
    subst₂ (Going w) (sym same) (sym empty) record {
      agrees = same_meaning w (bare w) refl (none_standing w sound none) refl;
      course = λ i t. omega (arith, load_none (horizon w) (road w i).slots t);
    }

-- ---- from call to call

module _ (m m' : Meaning) (g g' : Register) (xs : List Exchange) (x : Exchange)
    (made : Made m g x.call x.answer m' g') (recorded : Recorded g xs) where
  pub recorded_next : Recorded g' (xs ++ x ∷ [])
  recorded_next =
      let step = made.step in
      record {
        owes = step.owes ∙ ap (after x.call x.answer) recorded.owes ∙ sym (owed_push [] xs x);
        numbers = step.numbers ∙ ap (number_after x.answer) recorded.numbers ∙ sym (last_push 0 xs x);
        granted =
            omega (
              arith,
              step.numbers,
              recorded.granted,
              grants_push xs x,
              number_counts m (listed g) g.last x.call x.answer step.answers,
            );
        withdrawn = omega (arith, step.withdrawn, recorded.withdrawn, counted_push withdrawals xs x);
        arrived = omega (arith, step.arrived, recorded.arrived, counted_push arrivals xs x);
      }

  pub going_next : (w : Meaning) → Sound m → Going w m xs → Going w m' (xs ++ x ∷ [])
  going_next w sound going =
      let step = made.step in
      let bs = owed xs in
      let k = last_number 0 xs in
      let answers : Answers (over w bs) bs k x.call x.answer =
      subst₃ (λ z y n. Answers z y n x.call x.answer) going.agrees recorded.owes recorded.numbers
      step.answers in
      let within = within_after w bs k x.call x.answer (subst Sound going.agrees sound) answers
      (course_end w [] 0 xs going.course) in
      record {
        agrees =
            step.agrees w (going.agrees ∙ ap (over w) (sym recorded.owes))
            ∙ ap (over w) recorded_next.owes;
        course =
            course_push w [] 0 xs x going.course answers
            (subst (λ y. Told y x.call x.answer) recorded.owes made.told) within;
      }

pub going_promise : (w m : Meaning) (xs : List Exchange) → Going w m xs → Promise w xs m
going_promise w m xs going = record {
  stands = going.agrees;
  within = λ front rest is. course_within w [] 0 front rest (subst (Course w [] 0) (sym is) going.course);
  answers = λ front x rest is. course_answers w front x rest (subst (Course w [] 0) (sym is) going.course);
  answered = λ front x rest is. course_answered w front x rest (subst (Course w [] 0) (sym is) going.course);
}
