-- Room in the slots of a leg, slot by slot, and under a hold-back.
use Rattle.std.proofs.Common.{◌≡◌, ℕ, zero, suc, ◌+◌, ◌-◌, ◌<◌, ◌≤◌, Bool, true, false, not, ◌&&◌, ltb, leb, length, sym, refl, ap, ◌∙◌, ap₂, subst, inl, inr, ⊎_elim, add-one, arith}
use Rattle.std.proofs.lemmas.Bool.{and_from, and_left, cases_Bool, cases_lt, le-ltb, lt-ltb, ltb-true}
use Rattle.std.proofs.lemmas.List.FromFn.{get_or-range_with_len, length-range_with_len}
use Rattle.std.specs.Bool.{MatchBool}
use Rattle.std.specs.List.{AllWithin, HoldsAt, range_with_len}
use Rattle.book.specs.Below.{all_below}
use Rattle.book.specs.Layered.{held_back}
use Rattle.book.specs.Loads.{admissible, has_room, load, load_below}
use Rattle.book.specs.Meaning.{Meaning, horizon, road, segments}
use Rattle.book.specs.Rooms.{room_below}
use Rattle.book.specs.declared.legs.Leg.{Leg}
use Rattle.book.proofs.Layering.{road_held, segments_held}
use Rattle.book.proofs.Sums.{all_at, all_weaker}

module _ (m : Meaning) (l : Leg) (limit : ℕ) where
  pub room_none : room_below m l limit 0 ≡ true
  unfolding room_below
  room_none = refl

  pub room_more : (k : ℕ) → room_below m l limit k ≡ true → load m l.segment (l.entry + k) < limit
      → room_below m l limit (k + 1) ≡ true
  unfolding room_below
  room_more k below here =
      ap (room_below m l limit) (add-one k)
      ∙ and_from (room_below m l limit k) _ below (lt-ltb (load m l.segment (l.entry + k)) limit here)

  pub room_fails : (n k : ℕ) → k < n → limit ≤ load m l.segment (l.entry + k) → room_below m l limit n ≡ false
  unfolding room_below
  room_fails n k within full =
      elim (cases_Bool (room_below m l limit n)) [
        | inl all ↦
            let test : ℕ → Bool = λ j. ltb (load m l.segment (l.entry + j)) limit in
            absurd (omega (arith, ltb-true (load m l.segment (l.entry + k)) limit (all_at n test k all within)))
        | inr none ↦ none
      ]

  rooms : (n : ℕ) → ((k : ℕ) → k < n → load m l.segment (l.entry + k) < limit) → room_below m l limit n ≡ true
  unfolding room_below
  rooms zero each = refl
  rooms (suc n) each =
      and_from (room_below m l limit n) _ (rooms n (λ k below. each k (omega arith)))
      (lt-ltb (load m l.segment (l.entry + n)) limit (each n (omega arith)))

  -- the answer of a pass over the n slots from the leg's entry on, which stops at the first that is full
  pub room_passed : (n : ℕ) (r : Bool)
      → MatchBool r
      (AllWithin (λ t. load m l.segment t < limit) (range_with_len l.entry n) 0 (length (range_with_len l.entry n)))
      ((k : ℕ) × (k < length (range_with_len l.entry n))
      × HoldsAt (λ t. limit ≤ load m l.segment t) (range_with_len l.entry n) k)
      → r ≡ room_below m l limit n
  room_passed n true all =
      sym (rooms n (λ k below.
      subst (λ t. load m l.segment t < limit) (get_or-range_with_len l.entry n k 0 below)
      (all k 0 (omega arith) (omega (arith, length-range_with_len l.entry n)))))
  room_passed n false full =
      let within : full.0 < n = omega (arith, length-range_with_len l.entry n, full.1) in
      sym (room_fails n full.0 within
      (subst (λ t. limit ≤ load m l.segment t) (get_or-range_with_len l.entry n full.0 0 within) (full.2 0)))

-- the room of a leg under a hold-back is that of the book below with a lower limit
pub room_held : (held : ℕ) (m : Meaning) (l : Leg) → l.segment < segments m
    → has_room (held_back held m) l ≡ room_below m l ((road m l.segment).count - held) (road m l.segment).slots
unfolding has_room room_below
room_held held m l known =
    ap (λ r. all_below r.slots
    (λ k. ltb (load_below (horizon m) (m.standing l.segment) r.slots (l.entry + k)) r.count))
    (road_held held m l.segment known)

-- room under a lower limit is room
pub room_without : (held : ℕ) (m : Meaning) (l : Leg) → l.segment < segments m
    → has_room (held_back held m) l ≡ true → has_room m l ≡ true
unfolding has_room room_below
room_without held m l known room =
    let i = l.segment in
    let at : ℕ → ℕ = λ k. load m i (l.entry + k) in
    let count = (road m i).count in
    all_weaker (road m i).slots (λ k. ltb (at k) (count - held)) (λ k. ltb (at k) count)
    (λ k below. lt-ltb (at k) count (omega (arith, ltb-true (at k) (count - held) below)))
    (sym (room_held held m l known) ∙ room)

-- a leg is admissible under a hold-back where it is below it and still has room
pub admissible_held : (held : ℕ) (m : Meaning) (l : Leg)
    → admissible (held_back held m) l ≡ (admissible m l && has_room (held_back held m) l)
unfolding admissible
admissible_held held m l =
    let i = l.segment in
    let room = has_room (held_back held m) l in
    let same = segments_held held m in
    ⊎_elim
    (λ known.
    let slots = ap (λ r. r.slots) (road_held held m i known) in
    ap₂ (λ n u. ltb i n && (leb (l.entry + u) (horizon m) && (not (m.bars i l.entry) && room))) same slots
    ∙ implied (ltb i (segments m)) (leb (l.entry + (road m i).slots) (horizon m)) (m.bars i l.entry) room (has_room m l)
    (room_without held m l known))
    (λ past.
    let below = le-ltb i (segments m) past in
    let here : ltb i (segments (held_back held m)) ≡ false =
    le-ltb i (segments (held_back held m)) (omega (arith, same, past)) in
    and_left (ltb i (segments (held_back held m))) _ here
    ∙ sym (and_left (admissible m l) room (and_left (ltb i (segments m)) _ below)))
    (cases_lt i (segments m))
  where
    implied : (known within barred strict room : Bool) → (strict ≡ true → room ≡ true)
        → (known && (within && (not barred && strict))) ≡ ((known && (within && (not barred && room))) && strict)
    implied known within barred true room step = let yes = step refl in grind (arith, yes)
    implied known within barred false room step = grind arith
