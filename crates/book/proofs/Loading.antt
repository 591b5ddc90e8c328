-- What one leg more does to loads and totals.
use Rattle.std.proofs.Common.{◌≡◌, ℕ, ◌+◌, ◌-◌, ◌<◌, ◌≤◌, Bool, true, cond, not, ◌&&◌, eqb, ltb, leb, ◌≢◌, ap, ◌∙◌, subst, ⊎_elim, arith}
use mathlib.Core.Path.{fun_ext}
use Rattle.std.proofs.lemmas.Bool.{and_parts, cases_Bool, cases_eq, leb-true, lt-ltb, ltb-true, ne_eqb}
use Rattle.book.specs.Below.{all_below, sum_below}
use Rattle.book.specs.Laws.{OtherLoadsStay, OthersStayAdmissible, TotalCounts, WithinStays}
use Rattle.book.specs.Loads.{Within, admissible, has_room, holds, load, load_below}
use Rattle.book.specs.Meaning.{Meaning, horizon, one, plus, road, segments, total}
use Rattle.book.specs.declared.legs.Leg.{Leg}
use Rattle.book.proofs.Sums.{all_at, sum_add, sum_le, sum_point, sum_same}

-- a leg stands at no other segment
one_elsewhere : (l : Leg) (i e : ℕ) → l.segment ≢ i → one l i e ≡ 0
one_elsewhere l i e apart = let no = ne_eqb l.segment i apart in grind (arith, no)

standing_elsewhere : (m : Meaning) (l : Leg) (i : ℕ) → l.segment ≢ i → (plus m l).standing i ≡ m.standing i
standing_elsewhere m l i apart = fun_ext (λ e. omega (arith, one_elsewhere l i e apart))

pub other_loads_stay : OtherLoadsStay
other_loads_stay m l i t apart =
    ap (λ f. load_below (horizon m) f (road m i).slots t) (standing_elsewhere m l i apart)

pub others_stay_admissible : OthersStayAdmissible
unfolding admissible has_room
others_stay_admissible m l other apart =
    let i = other.segment in
    let e = other.entry in
    ap (λ (f : ℕ → ℕ).
    ltb i (segments m)
    && (leb (e + (road m i).slots) (horizon m)
    && (not (m.bars i e)
    && all_below (road m i).slots (λ k. ltb (load_below (horizon m) f (road m i).slots (e + k)) (road m i).count))))
    (standing_elsewhere m l i apart)

-- ---- loads add up

spread : (b : Bool) (x y : ℕ) → cond b (x + y) 0 ≡ cond b x 0 + cond b y 0
spread b x y = grind arith

load_add : (n : ℕ) (f g : ℕ → ℕ) (u t : ℕ)
    → load_below n (λ e. f e + g e) u t ≡ load_below n f u t + load_below n g u t
unfolding load_below
load_add n f g u t =
    sum_same n _ _ (λ e. spread (holds e u t) (f e) (g e))
    ∙ sum_add n (λ e. cond (holds e u t) (f e) 0) (λ e. cond (holds e u t) (g e) 0)

load_le : (n : ℕ) (f g : ℕ → ℕ) (u t : ℕ) → ((e : ℕ) → f e ≤ g e) → load_below n f u t ≤ load_below n g u t
unfolding load_below
load_le n f g u t below =
    let part : (b : Bool) (x y : ℕ) → x ≤ y → cond b x 0 ≤ cond b y 0 = λ b x y p. grind arith in
    sum_le n _ _ (λ e. part (holds e u t) (f e) (g e) (below e))

-- a leg alone holds each of its slots once, and no other
load_one : (n : ℕ) (l : Leg) (i u t : ℕ) → load_below n (one l i) u t ≤ cond (holds l.entry u t) 1 0
unfolding load_below
load_one n l i u t =
    let inside : (e : ℕ) → cond (holds e u t) (one l i e) 0 ≤ cond (eqb l.entry e) (cond (holds l.entry u t) 1 0) 0 =
    λ e. grind arith in
    let step = sum_le n _ _ inside in
    let point = sum_point n l.entry (cond (holds l.entry u t) 1 0) in
    grind (arith, step, point)

-- an admissible leg's slots have room
pub admitted_slots_have_room : (m : Meaning) (l : Leg) (t : ℕ) → admissible m l ≡ true
    → holds l.entry (road m l.segment).slots t ≡ true → load m l.segment t < (road m l.segment).count
unfolding admissible has_room
admitted_slots_have_room m l t admitted held =
    let i = l.segment in
    let u = (road m i).slots in
    let test : ℕ → Bool = λ k. ltb (load m i (l.entry + k)) (road m i).count in
    let known = (and_parts (ltb i (segments m)) _ admitted).1 in
    let within = (and_parts (leb (l.entry + u) (horizon m)) _ known).1 in
    let room = (and_parts (not (m.bars i l.entry)) (all_below u test) within).1 in
    let parts = and_parts (leb l.entry t) (ltb t (l.entry + u)) held in
    let from = leb-true l.entry t parts.0 in
    let to = ltb-true t (l.entry + u) parts.1 in
    let here : l.entry + (t - l.entry) ≡ t = omega arith in
    let at = all_at u test (t - l.entry) room (omega arith) in
    ltb-true _ _ (subst (λ s. ltb (load m i s) (road m i).count ≡ true) here at)

within_plus : (m : Meaning) (l : Leg) → Within m → admissible m l ≡ true → Within (plus m l)
within_plus m l within admitted i t =
    ⊎_elim
    (λ same.
    let at : load (plus m l) l.segment t ≤ (road m l.segment).count =
    let u = (road m l.segment).slots in
    let sum = load_add (horizon m) (m.standing l.segment) (one l l.segment) u t in
    let lone = load_one (horizon m) l l.segment u t in
    let was = within l.segment t in
    ⊎_elim
    (λ held. let room = admitted_slots_have_room m l t admitted held in grind (arith, sum, lone, room, held))
    (λ free. grind (arith, sum, lone, was, free))
    (cases_Bool (holds l.entry u t)) in
    subst (λ j. load (plus m l) j t ≤ (road m j).count) same at)
    (λ apart. omega (arith, other_loads_stay m l i t apart, within i t))
    (cases_eq l.segment i)

within_less : (m : Meaning) (l : Leg) → Within (plus m l) → Within m
within_less m l within i t =
    omega (
      arith,
      within i t,
      load_le (horizon m) (m.standing i) ((plus m l).standing i) (road m i).slots t (λ e. omega arith),
    )

pub within_stays : WithinStays
within_stays m l = (within_plus m l, within_less m l)

-- ---- totals

row_one : (l : Leg) (i n : ℕ) → l.entry < n → sum_below n (one l i) ≡ cond (eqb l.segment i) 1 0
row_one l i n within =
    let split : (e : ℕ) → one l i e ≡ cond (eqb l.entry e) (cond (eqb l.segment i) 1 0) 0 = λ e. grind arith in
    let point = sum_point n l.entry (cond (eqb l.segment i) 1 0) in
    let there = lt-ltb l.entry n within in
    let same = sum_same n (one l i) _ split in
    grind (arith, point, there, same)

pub total_counts : TotalCounts
unfolding total
total_counts m l known entered =
    let rows : (i : ℕ) → sum_below (horizon m) ((plus m l).standing i)
    ≡ sum_below (horizon m) (m.standing i) + cond (eqb l.segment i) 1 0 =
    λ i. omega (arith, sum_add (horizon m) (m.standing i) (one l i), row_one l i (horizon m) entered) in
    let all = sum_same (segments m) _ _ rows in
    let parts = sum_add (segments m) (λ i. sum_below (horizon m) (m.standing i)) (λ i. cond (eqb l.segment i) 1 0) in
    let point = sum_point (segments m) l.segment 1 in
    let there = lt-ltb l.segment (segments m) known in
    grind (arith, all, parts, point, there)

-- ---- what an admissible leg has

pub admitted_known : (m : Meaning) (l : Leg) → admissible m l ≡ true → l.segment < segments m
unfolding admissible
admitted_known m l admitted = ltb-true l.segment (segments m) (and_parts (ltb l.segment (segments m)) _ admitted).0

pub admitted_within : (m : Meaning) (l : Leg) → admissible m l ≡ true
    → l.entry + (road m l.segment).slots ≤ horizon m
unfolding admissible
admitted_within m l admitted =
    let end = l.entry + (road m l.segment).slots in
    let known = (and_parts (ltb l.segment (segments m)) _ admitted).1 in
    leb-true end (horizon m) (and_parts (leb end (horizon m)) _ known).0
