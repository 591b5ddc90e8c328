-- Counting records, and writing one.
use Rattle.std.proofs.Common.{◌≡◌, ℕ, suc, ◌+◌, ◌<◌, ◌≤◌, Bool, true, false, cond, ◌&&◌, eqb, ltb, ◌≢◌, ◌⊎◌, inl, inr, List, [], ◌∷◌, length, get_or, take, set, count_by, Some, None, Option, is_some, sym, refl, ap, ap₂, ◌∙◌, arith, length-set}
use Rattle.std.proofs.lemmas.List.Sums.{count_by-le-length, sum_by-cons, sum_by-set, sum_by-take-le, sum_by_more}
use Rattle.std.proofs.lemmas.Bool.{and_parts, eqb-true, ltb-true, ne_eqb}
use Rattle.std.specs.Option.{option_map_or}
use Rattle.book.specs.Meaning.{Shown, one}
use Rattle.book.specs.declared.legs.Leg.{Leg}
use Rattle.leg_book.specs.Records.{count_at, count_used, in_plan, is_leg, no_record, record_of}
use Rattle.leg_book.specs.declared.leg_record.LegRecord.{LegRecord}

-- ---- counting all records

-- where none passes, and where all do
pub count_none : {X : Type 0} (p : X → Bool) (xs : List X) (d : X)
    → ((k : ℕ) → k < length xs → p (get_or xs k d) ≡ false) → count_by p xs ≡ 0
count_none p [] d none = refl
count_none p (x ∷ xs) d none =
    let first = none 0 (omega arith) in
    let rest = count_none p xs d (λ k within. none (suc k) (omega arith)) in
    sum_by-cons (λ y. cond (p y) 1 0) x xs ∙ grind (arith, first, rest)

pub count_all : {X : Type 0} (p : X → Bool) (xs : List X) (d : X)
    → ((k : ℕ) → k < length xs → p (get_or xs k d) ≡ true) → count_by p xs ≡ length xs
count_all p [] d all = refl
count_all p (x ∷ xs) d all =
    let first = all 0 (omega arith) in
    let rest = count_all p xs d (λ k within. all (suc k) (omega arith)) in
    sum_by-cons (λ y. cond (p y) 1 0) x xs ∙ grind (arith, first, rest)

-- ---- one leg

pub one_elsewhere : (l : Leg) (i e : ℕ) → (l.segment ≢ i) ⊎ (l.entry ≢ e) → one l i e ≡ 0
one_elsewhere l i e (inl apart) = let no = ne_eqb l.segment i apart in grind (arith, no)
one_elsewhere l i e (inr apart) = let no = ne_eqb l.entry e apart in grind (arith, no)

-- ---- counting one record more

module _ (rs : List LegRecord) (k : ℕ) (within : k < length rs) (i : ℕ) where
  pub count_next : (l : Leg) → (get_or rs k no_record).leg ≡ Some l → (e : ℕ)
      → count_at (take (k + 1) rs) i e ≡ count_at (take k rs) i e + one l i e
  count_next l is e =
      sum_by_more (λ r. cond (is_leg i e r) 1 0) rs k no_record within
      ∙ ap (λ o. count_at (take k rs) i e
      + cond {A = ℕ} (option_map_or (λ x. eqb x.segment i && eqb x.entry e) o false) 1 0) is

  pub count_same : (get_or rs k no_record).leg ≡ None → (e : ℕ) → count_at (take (k + 1) rs) i e ≡ count_at (take k rs) i e
  count_same none e =
      let same = sum_by_more (λ r. cond (is_leg i e r) 1 0) rs k no_record within in
      let zero : cond {A = ℕ} (is_leg i e (get_or rs k no_record)) 1 0 ≡ 0 =
      ap (λ o. cond {A = ℕ} (option_map_or (λ x. eqb x.segment i && eqb x.entry e) o false) 1 0) none in
      omega (arith, same, zero)

pub count_at_part : (rs : List LegRecord) (k i e : ℕ) → count_at (take k rs) i e ≤ count_at rs i e
count_at_part rs k i e = sum_by-take-le (λ r. cond (is_leg i e r) 1 0) rs k

-- ---- one record is written

module _ (rs : List LegRecord) (k : ℕ) (within : k < length rs) where
  recount : (p : LegRecord → Bool) (y : LegRecord)
      → count_by p (set rs k y) + cond (p (get_or rs k no_record)) 1 0 ≡ count_by p rs + cond (p y) 1 0
  recount p y = sum_by-set (λ r. cond (p r) 1 0) rs k y no_record within

  -- a record that is not in use becomes a standing leg
  module _ (l : Leg) (unused : (get_or rs k no_record).leg ≡ None) where
    pub leg_more : (i e : ℕ) → count_at (set rs k (record_of l)) i e ≡ count_at rs i e + one l i e
    leg_more i e =
        let gone : is_leg i e (get_or rs k no_record) ≡ false =
        ap (λ o. option_map_or (λ x. eqb x.segment i && eqb x.entry e) o false) unused in
        let all = recount (is_leg i e) (record_of l) in
        let was : cond {A = ℕ} (is_leg i e (get_or rs k no_record)) 1 0 ≡ 0 = ap (λ b. cond {A = ℕ} b 1 0) gone in
        omega (arith, all, was)

    pub used_less : count_used rs < length rs
    used_less =
        let was : cond {A = ℕ} (is_some (get_or rs k no_record).leg) 1 0 ≡ 0 = ap (λ o. cond {A = ℕ} (is_some o) 1 0) unused in
        omega (
          arith,
          recount (λ r. is_some r.leg) (record_of l),
          was,
          count_by-le-length (λ r. is_some r.leg) (set rs k (record_of l)),
          length-set rs k (record_of l),
        )

  -- a standing leg is put out of use
  module _ (l : Leg) (is : (get_or rs k no_record).leg ≡ Some l) where
    pub leg_less : (i e : ℕ) → count_at rs i e ≡ count_at (set rs k no_record) i e + one l i e
    leg_less i e =
        let here : cond {A = ℕ} (is_leg i e (get_or rs k no_record)) 1 0 ≡ one l i e =
        ap (λ o. cond {A = ℕ} (option_map_or (λ x. eqb x.segment i && eqb x.entry e) o false) 1 0) is in
        omega (arith, recount (is_leg i e) no_record, here)

-- ---- records by their legs

pub leg_in_plan : (s : Shown) (r : LegRecord) (l : Leg) → r.leg ≡ Some l → in_plan s r ≡ true
    → (l.segment < length s.roads) × (l.entry < s.horizon)
leg_in_plan s r l is legal =
    let told : (ltb l.segment (length s.roads) && ltb l.entry s.horizon) ≡ true =
    ap (λ o. option_map_or (λ x. ltb x.segment (length s.roads) && ltb x.entry s.horizon) o true) (sym is) ∙ legal in
    let parts = and_parts (ltb l.segment (length s.roads)) (ltb l.entry s.horizon) told in
    (ltb-true _ _ parts.0, ltb-true _ _ parts.1)

-- a record that is a leg has that leg
pub leg_is : (i e : ℕ) (r : LegRecord) → is_leg i e r ≡ true → r.leg ≡ Some (record { segment = i; entry = e })
leg_is i e r = go r.leg
  where
    go : (o : Option Leg) → option_map_or (λ l. eqb l.segment i && eqb l.entry e) o false ≡ true
        → o ≡ Some (record { segment = i; entry = e })
    go None is = cc
    go (Some l) is =
        let parts = and_parts (eqb l.segment i) (eqb l.entry e) is in
        ap₂ (λ x y. Some (record { segment = x; entry = y })) (eqb-true l.segment i parts.0) (eqb-true l.entry e parts.1)
