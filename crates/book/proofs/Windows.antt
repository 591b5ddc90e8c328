-- The load of a slot as a window over the entries, which moves on with the slot.
use Rattle.std.proofs.Common.{◌≡◌, ℕ, zero, suc, ◌+◌, ◌-◌, ◌<◌, ◌≤◌, Bool, true, cond, eqb, ltb, sym, refl, ap, ◌∙◌, ⊎_elim, add-one, arith}
use Rattle.std.proofs.lemmas.Bool.{cases_eq, cases_lt, cond-false, cond-true, le-ltb, lt-ltb}
use Rattle.std.proofs.lemmas.Bool.Decides.{nat_tests}
use Rattle.std.proofs.lemmas.List.{get_or_past}
use Rattle.std.proofs.lemmas.List.Sums.{sum_by-cons}
use Rattle.std.specs.List.{range_with_len, sum_by}
use Rattle.book.specs.Below.{sum_below}
use Rattle.book.specs.Loads.{holds, load, load_below}
use Rattle.book.specs.Meaning.{Meaning, Sound, horizon, no_road, road, segments, total}
use Rattle.book.proofs.Sums.{le_sum, sum_add, sum_at, sum_le, sum_same}

module _ (f : ℕ → ℕ) (u : ℕ) where
  no_entries : (t : ℕ) → load_below 0 f u t ≡ 0
  unfolding load_below
  no_entries t = refl

  -- no leg that enters u or more slots before the slot holds it
  pub window_none : (first t : ℕ) → first + u ≤ t + 1 → load_below first f u t ≡ 0
  unfolding load_below
  window_none zero t early = refl
  window_none (suc first) t early =
      let before = window_none first t (omega arith) in
      let past : cond (holds first u t) (f first) 0 ≡ 0 =
      cond-false (holds first u t) (f first) 0 (grind (arith, nat_tests)) in
      omega (arith, before, past)

  pub window_first : (first t : ℕ) → first ≡ t + 1 - u → load_below first f u t ≡ 0
  window_first first t is =
      ⊎_elim
      (λ early. ap (λ k. load_below k f u t) (let none : first ≡ 0 = omega arith in none) ∙ no_entries t)
      (λ late. window_none first t (omega arith))
      (cases_lt (t + 1) u)

  -- one entry more, up to the slot
  pub window_more : (e t : ℕ) → t + 1 ≤ e + u → e ≤ t → load_below (e + 1) f u t ≡ load_below e f u t + f e
  unfolding load_below
  window_more e t low high =
      let held : holds e u t ≡ true = grind (arith, nat_tests) in
      let here = cond-true (holds e u t) (f e) 0 held in
      ap (λ k. load_below k f u t) (add-one e) ∙ ap (λ v. load_below e f u t + v) here

  -- no leg that enters after the slot holds it
  pub window_all : (n t : ℕ) → t < n → load_below n f u t ≡ load_below (t + 1) f u t
  unfolding load_below
  window_all zero t within = absurd (omega arith)
  window_all (suc n) t within =
      ⊎_elim
      (λ same. ap (λ k. load_below (suc k) f u t) same ∙ ap (λ k. load_below k f u t) (sym (add-one t)))
      (λ apart.
      let before = window_all n t (omega arith) in
      let late : cond (holds n u t) (f n) 0 ≡ 0 = cond-false (holds n u t) (f n) 0 (grind (arith, nat_tests)) in
      omega (arith, before, late))
      (cases_eq n t)

  -- the entries from a on, up to the slot, one by one
  pub window_sum : (a n t : ℕ) → t + 1 ≤ a + u → a + n ≤ t + 1
      → load_below a f u t + sum_by f (range_with_len a n) ≡ load_below (a + n) f u t
  window_sum a zero t low high =
      let none = ap (λ k. load_below k f u t) (let is : a ≡ a + 0 = omega arith in is) in omega (arith, none)
  window_sum a (suc n) t low high =
      let more = window_more a t low (omega arith) in
      let rest = window_sum (a + 1) n t (omega arith) (omega arith) in
      let last = ap (λ k. load_below k f u t) (let is : a + 1 + n ≡ a + suc n = omega arith in is) in
      omega (arith, more, rest, last, sum_by-cons f a (range_with_len (a + 1) n))

  -- where none enters from n on, the entries below n are all
  window_past : (n k t : ℕ) → n ≤ k → ((e : ℕ) → n ≤ e → f e ≡ 0) → load_below k f u t ≡ load_below n f u t
  unfolding load_below
  window_past n zero t past none = ap (λ j. load_below j f u t) (let same : 0 ≡ n = omega arith in same)
  window_past n (suc k) t past none =
      ⊎_elim
      (λ same. ap (λ j. load_below j f u t) (sym same))
      (λ apart.
      let before = window_past n k t (omega arith) none in
      let empty = none k (omega arith) in
      grind (arith, before, empty))
      (cases_eq n (suc k))

  -- the next slot: the leg that enters there comes in, and those that entered u slots before go out
  pub window_slides : (n t : ℕ) → 1 ≤ u → u ≤ t + 1
      → load_below n f u (t + 1) + cond (ltb (t + 1 - u) n) (f (t + 1 - u)) 0
      ≡ load_below n f u t + cond (ltb (t + 1) n) (f (t + 1)) 0
  unfolding load_below
  window_slides n t some past =
      let moves : (e : ℕ) → cond (holds e u (t + 1)) (f e) 0 + cond (eqb (t + 1 - u) e) (f e) 0
      ≡ cond (holds e u t) (f e) 0 + cond (eqb (t + 1) e) (f e) 0 = λ e. grind (arith, nat_tests) in
      let all = sum_same n _ _ moves in
      let left = sum_add n (λ e. cond (holds e u (t + 1)) (f e) 0) (λ e. cond (eqb (t + 1 - u) e) (f e) 0) in
      let right = sum_add n (λ e. cond (holds e u t) (f e) 0) (λ e. cond (eqb (t + 1) e) (f e) 0) in
      omega (arith, all, left, right, sum_at n (t + 1 - u) f, sum_at n (t + 1) f)

  pub window_grows : (n t : ℕ) → 1 ≤ u → t + 1 < u
      → load_below n f u (t + 1) ≡ load_below n f u t + cond (ltb (t + 1) n) (f (t + 1)) 0
  unfolding load_below
  window_grows n t some early =
      let moves : (e : ℕ) → cond (holds e u (t + 1)) (f e) 0 ≡ cond (holds e u t) (f e) 0 + cond (eqb (t + 1) e) (f e) 0 =
      λ e. grind (arith, nat_tests) in
      let all = sum_same n _ _ moves in
      let right = sum_add n (λ e. cond (holds e u t) (f e) 0) (λ e. cond (eqb (t + 1) e) (f e) 0) in
      omega (arith, all, right, sum_at n (t + 1) f)

-- a leg without travel slots holds none
window_empty : (f : ℕ → ℕ) (n t : ℕ) → load_below n f 0 t ≡ 0
unfolding load_below
window_empty f zero t = refl
window_empty f (suc n) t =
    let before = window_empty f n t in
    let nothing : cond (holds n 0 t) (f n) 0 ≡ 0 = cond-false (holds n 0 t) (f n) 0 (grind (arith, nat_tests)) in
    omega (arith, before, nothing)

pub load_unknown : (m : Meaning) (i t : ℕ) → segments m ≤ i → load m i t ≡ 0
load_unknown m i t past =
    ap (λ r. load_below (horizon m) (m.standing i) r.slots t) (get_or_past m.shown.roads i no_road past)
    ∙ window_empty (m.standing i) (horizon m) t

-- the legs that hold a slot entered by then
pub load_by_then : (m : Meaning) (i t : ℕ) → Sound m → load_below (t + 1) (m.standing i) (road m i).slots t ≡ load m i t
load_by_then m i t sound =
    ⊎_elim
    (λ before. sym (window_all (m.standing i) (road m i).slots (horizon m) t before))
    (λ past. window_past (m.standing i) (road m i).slots (horizon m) (t + 1) t (omega arith) (λ e. sound.known_entries i e))
    (cases_lt t (horizon m))

-- a load counts standing legs, so it is at most the total
pub load_in_total : (m : Meaning) (i t : ℕ) → i < segments m → load m i t ≤ total m
unfolding load_below total
load_in_total m i t known =
    let part : (b : Bool) (x : ℕ) → cond b x 0 ≤ x = λ b x. grind arith in
    let row = sum_le (horizon m) (λ e. cond (holds e (road m i).slots t) (m.standing i e) 0) (m.standing i)
    (λ e. part (holds e (road m i).slots t) (m.standing i e)) in
    omega (arith, row, le_sum (segments m) (λ j. sum_below (horizon m) (m.standing j)) i known)

module _ (m : Meaning) (sound : Sound m) (i : ℕ) (known : i < segments m) where
  -- past the horizon none enters
  entering : (e : ℕ) → cond (ltb e (horizon m)) (m.standing i e) 0 ≡ m.standing i e
  entering e =
      ⊎_elim
      (λ before. cond-true (ltb e (horizon m)) _ _ (lt-ltb e (horizon m) before))
      (λ past. cond-false (ltb e (horizon m)) _ _ (le-ltb e (horizon m) past) ∙ sym (sound.known_entries i e past))
      (cases_lt e (horizon m))

  takes : 1 ≤ (road m i).slots
  takes = (sound.plan_fits.roads_fit i known).takes_a_slot

  pub load_grows : (t : ℕ) → t + 1 < (road m i).slots → load m i (t + 1) ≡ load m i t + m.standing i (t + 1)
  load_grows t early =
      window_grows (m.standing i) (road m i).slots (horizon m) t takes early
      ∙ ap (λ n. load m i t + n) (entering (t + 1))

  pub load_slides : (t : ℕ) → (road m i).slots ≤ t + 1
      → load m i (t + 1) + m.standing i (t + 1 - (road m i).slots) ≡ load m i t + m.standing i (t + 1)
  load_slides t past =
      ap (λ n. load m i (t + 1) + n) (sym (entering (t + 1 - (road m i).slots)))
      ∙ window_slides (m.standing i) (road m i).slots (horizon m) t takes past
      ∙ ap (λ n. load m i t + n) (entering (t + 1))

  pub load_small : (t : ℕ) → load m i t ≤ 1024
  load_small t = let few = sound.few_legs in omega (arith, load_in_total m i t known)
