-- One leg more in a row of standing numbers, and which legs a row admits.
use Rattle.std.proofs.Common.{◌≡◌, ℕ, ◌+◌, ◌-◌, ◌<◌, ◌≤◌, true, false, ◌&&◌, eqb, ltb, leb, ◌≢◌, List, length, get_or, set, sym, refl, ap, ◌∙◌, subst, ⊎_elim, arith, get_or-set_other, get_or-set_same}
use Rattle.std.proofs.lemmas.Bool.{and_left, and_right, cases_Bool, cases_eq, cond-false, eq-eqb, le-ltb, le-leb, lt-leb, lt-ltb, ltb-true, ne_eqb}
use Rattle.book.specs.Loads.{admissible, has_room}
use Rattle.book.specs.Meaning.{plus, road, total}
use Rattle.book.specs.Rooms.{room_below}
use Rattle.book.specs.declared.legs.Leg.{Leg}
use Rattle.book.proofs.Loading.{admitted_known, admitted_within}
use Rattle.book.proofs.Sums.{le_sum}
use Rattle.book.specs.Below.{sum_below}
use Rattle.book.proofs.Reserving.{same_meaning}
use Rattle.layer_cases.specs.Row.{row_meaning, row_standing}

-- ---- which legs are admissible

pub no_other_segment : (slots limit : ℕ) (row : List ℕ) (l : Leg) → l.segment ≢ 0
    → admissible (row_meaning slots limit row) l ≡ false
unfolding admissible
no_other_segment slots limit row l apart = and_left (ltb l.segment 1) _ (le-ltb l.segment 1 (omega arith))

pub past_the_horizon : (slots limit : ℕ) (row : List ℕ) (l : Leg) → l.segment ≡ 0 → 20 < l.entry + slots
    → admissible (row_meaning slots limit row) l ≡ false
unfolding admissible
past_the_horizon slots limit row l first past =
    let at : (i : ℕ) → i ≡ 0 → admissible (row_meaning slots limit row) (record { segment = i; entry = l.entry }) ≡ false =
    λ i is.
    subst (λ j. admissible (row_meaning slots limit row) (record { segment = j; entry = l.entry }) ≡ false) (sym is)
    (and_left (leb (l.entry + slots) 20) _ (lt-leb (l.entry + slots) 20 past)) in
    at l.segment first

pub room_decides : (slots limit : ℕ) (row : List ℕ) (l : Leg) → l.segment ≡ 0 → l.entry + slots ≤ 20
    → admissible (row_meaning slots limit row) l ≡ room_below (row_meaning slots limit row) l limit slots
unfolding admissible has_room room_below
room_decides slots limit row l first within =
    let m = row_meaning slots limit row in
    subst
    (λ i. admissible m (record { segment = i; entry = l.entry }) ≡ room_below m (record { segment = i; entry = l.entry }) limit slots)
    (sym first)
    (ap (λ b. b && has_room m (record { segment = 0; entry = l.entry })) (le-leb (l.entry + slots) 20 within))

-- ---- one leg more

pub one_more : (slots limit : ℕ) (row more : List ℕ) (l : Leg) → l.segment ≡ 0 → l.entry < 20
    → get_or more l.entry 0 ≡ get_or row l.entry 0 + 1
    → ((e : ℕ) → l.entry ≢ e → get_or more e 0 ≡ get_or row e 0)
    → row_meaning slots limit more ≡ plus (row_meaning slots limit row) l
one_more slots limit row more l first within there elsewhere =
    same_meaning (row_meaning slots limit more) (plus (row_meaning slots limit row) l)
    refl
    (λ i e.
    ⊎_elim
    (λ here.
    let at : get_or more e 0 ≡ get_or row e 0 + 1 = subst (λ x. get_or more x 0 ≡ get_or row x 0 + 1) here there in
    let same = eq-eqb l.entry e here in
    let below = lt-ltb e 20 (omega arith) in
    ⊎_elim
    (λ known. let yes = eq-eqb i 0 known in let this = eq-eqb l.segment i (first ∙ sym known) in
    grind (arith, at, same, below, yes, this))
    (λ unknown. let no = ne_eqb i 0 unknown in let other = ne_eqb l.segment i (λ k. unknown (sym k ∙ first)) in
    grind (arith, no, other))
    (cases_eq i 0))
    (λ apart.
    let at = elsewhere e apart in
    let other = ne_eqb l.entry e apart in
    grind (arith, at, other))
    (cases_eq l.entry e))
    refl

pub set_more : (slots limit : ℕ) (row : List ℕ) (l : Leg) → l.segment ≡ 0 → l.entry < 20 → length row ≡ 20
    → row_meaning slots limit (set row l.entry (get_or row l.entry 0 + 1)) ≡ plus (row_meaning slots limit row) l
set_more slots limit row l first within sized =
    let n = get_or row l.entry 0 + 1 in
    one_more slots limit row (set row l.entry n) l first within
    (get_or-set_same row l.entry n 0 (omega arith))
    (λ e apart. get_or-set_other row l.entry e n 0 (λ k. apart (sym k)))

pub set_less : (slots limit : ℕ) (row : List ℕ) (l : Leg) → l.segment ≡ 0 → l.entry < 20 → length row ≡ 20
    → 1 ≤ get_or row l.entry 0
    → row_meaning slots limit row ≡ plus (row_meaning slots limit (set row l.entry (get_or row l.entry 0 - 1))) l
set_less slots limit row l first within sized some =
    let n = get_or row l.entry 0 - 1 in
    one_more slots limit (set row l.entry n) row l first within
    (omega (arith, get_or-set_same row l.entry n 0 (omega arith)))
    (λ e apart. sym (get_or-set_other row l.entry e n 0 (λ k. apart (sym k))))

pub standing_at : (row : List ℕ) (l : Leg) → l.segment ≡ 0 → l.entry < 20
    → row_standing row l.segment l.entry ≡ get_or row l.entry 0
standing_at row l first within =
    let known = eq-eqb l.segment 0 first in
    let below = lt-ltb l.entry 20 within in
    grind (arith, known, below)

-- no entry has more legs than the row
pub at_most_all : (slots limit : ℕ) (row : List ℕ) (l : Leg) → l.segment ≡ 0 → l.entry < 20
    → get_or row l.entry 0 ≤ total (row_meaning slots limit row)
unfolding total
at_most_all slots limit row l first within =
    let m = row_meaning slots limit row in
    let here = le_sum 20 (row_standing row 0) l.entry within in
    let all = le_sum 1 (λ i. sum_below 20 (row_standing row i)) 0 (omega arith) in
    let below = lt-ltb l.entry 20 within in
    let at : row_standing row 0 l.entry ≡ get_or row l.entry 0 = grind (arith, below) in
    omega arith

-- ---- where a leg is that a row admits, and one that stands in it

pub admitted_inside : (slots limit : ℕ) (row : List ℕ) (l : Leg) → 1 ≤ slots
    → admissible (row_meaning slots limit row) l ≡ true → (l.segment ≡ 0) × (l.entry < 20)
admitted_inside slots limit row l takes admitted =
    let m = row_meaning slots limit row in
    let known = admitted_known m l admitted in
    let first : l.segment ≡ 0 = omega arith in
    let within = admitted_within m l admitted in
    let long = ap (λ i. (road m i).slots) first in
    (first, omega arith)

pub standing_inside : (row : List ℕ) (i e : ℕ) → row_standing row i e ≢ 0 → (i ≡ 0) × (e < 20)
standing_inside row i e some =
    ⊎_elim
    (λ known.
    ⊎_elim
    (λ below. (known, ltb-true e 20 below))
    (λ past. absurd (some (cond-false _ _ _ (and_right (eqb i 0) (ltb e 20) past))))
    (cases_Bool (ltb e 20)))
    (λ unknown. absurd (some (cond-false _ _ _ (and_left (eqb i 0) (ltb e 20) (ne_eqb i 0 unknown)))))
    (cases_eq i 0)
