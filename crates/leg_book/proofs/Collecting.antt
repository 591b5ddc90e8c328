-- The standing legs, counted by segment and entry, are all records in use.
use Rattle.std.proofs.Common.{◌≡◌, ℕ, zero, suc, ◌+◌, ◌<◌, Bool, true, false, cond, ◌&&◌, eqb, ltb, List, [], ◌∷◌, length, get_or, count_by, Some, None, Option, is_some, refl, ap, ◌∙◌, arith}
use Rattle.std.proofs.lemmas.List.Sums.{sum_by-cons}
use Rattle.std.proofs.lemmas.Bool.{and_parts, cond-true, lt-ltb, ltb-true}
use Rattle.std.specs.Option.{option_map_or}
use Rattle.book.proofs.Bottoms.{bottom_at}
use Rattle.book.proofs.Sums.{sum_add, sum_point, sum_zero}
use Rattle.book.specs.Below.{sum_below}
use Rattle.book.specs.Bottom.{bottom}
use Rattle.book.specs.Meaning.{Shown, total}
use Rattle.book.specs.declared.legs.Leg.{Leg}
use Rattle.leg_book.specs.Records.{count_at, count_used, in_plan, is_leg, is_of, no_record}
use Rattle.leg_book.specs.declared.leg_record.LegRecord.{LegRecord}

sum_same_below : (n : ℕ) (f g : ℕ → ℕ) → ((k : ℕ) → k < n → f k ≡ g k) → sum_below n f ≡ sum_below n g
sum_same_below zero f g same = refl
sum_same_below (suc n) f g same =
    omega (arith, sum_same_below n f g (λ k below. same k (omega arith)), same n (omega arith))

-- elements that pass a test and have a key below n, counted by key; `both` tests for one key
module _ {X : Type 0} (n : ℕ) (key : X → ℕ) (test : X → Bool) (both : ℕ → X → Bool)
    (is : (x : X) (e : ℕ) → both e x ≡ (test x && eqb (key x) e)) where
  -- one element has one key
  one_key : (told : Bool) (j : ℕ) → (told ≡ true → j < n)
      → sum_below n (λ e. cond (told && eqb j e) 1 0) ≡ cond told 1 0
  one_key true j below = sum_point n j 1 ∙ cond-true (ltb j n) 1 0 (lt-ltb j n (below refl))
  one_key false j below = sum_zero n

  pub collect : (xs : List X) (d : X)
      → ((k : ℕ) → k < length xs → test (get_or xs k d) ≡ true → key (get_or xs k d) < n)
      → sum_below n (λ e. count_by (both e) xs) ≡ count_by test xs
  collect [] d below = sum_zero n
  collect (x ∷ xs) d below =
      let one : ℕ → ℕ = λ e. cond (test x && eqb (key x) e) 1 0 in
      let many : ℕ → ℕ = λ e. count_by (both e) xs in
      sum_same_below n _ (λ e. one e + many e)
      (λ e _. sum_by-cons (λ y. cond (both e y) 1 0) x xs ∙ ap (λ b. cond b 1 0 + many e) (is x e))
      ∙ sum_add n one many
      ∙ omega (
        arith,
        one_key (test x) (key x) (below 0 (omega arith)),
        collect xs d (λ k within. below (suc k) (omega arith)),
        sum_by-cons (λ y. cond (test y) 1 0) x xs,
      )

abbrev segment_in : LegRecord → ℕ
segment_in r = option_map_or (λ l. l.segment) r.leg 0

abbrev entry_in : LegRecord → ℕ
entry_in r = option_map_or (λ l. l.entry) r.leg 0

by_segment : (r : LegRecord) (i : ℕ) → is_of i r ≡ (is_some r.leg && eqb (segment_in r) i)
by_segment r i = go r.leg
  where
    go : (o : Option Leg) → option_map_or (λ l. eqb l.segment i) o false
        ≡ (is_some o && eqb (option_map_or (λ l. l.segment) o 0) i)
    go None = refl
    go (Some l) = refl

by_entry : (i : ℕ) (r : LegRecord) (e : ℕ) → is_leg i e r ≡ (is_of i r && eqb (entry_in r) e)
by_entry i r e = go r.leg
  where
    go : (o : Option Leg) → option_map_or (λ l. eqb l.segment i && eqb l.entry e) o false
        ≡ (option_map_or (λ l. eqb l.segment i) o false && eqb (option_map_or (λ l. l.entry) o 0) e)
    go None = refl
    go (Some l) = refl

module _ (s : Shown) where
  segment_below : (r : LegRecord) → in_plan s r ≡ true → is_some r.leg ≡ true → segment_in r < length s.roads
  segment_below r = go r.leg
    where
      go : (o : Option Leg)
          → option_map_or (λ l. ltb l.segment (length s.roads) && ltb l.entry s.horizon) o true ≡ true → is_some o ≡ true
          → option_map_or (λ l. l.segment) o 0 < length s.roads
      go None legal used = absurd (let z : ◌≡◌ {A = ℕ} 0 1 = cc in omega arith)
      go (Some l) legal used = ltb-true _ _ (and_parts (ltb l.segment (length s.roads)) (ltb l.entry s.horizon) legal).0

  entry_below : (i : ℕ) (r : LegRecord) → in_plan s r ≡ true → is_of i r ≡ true → entry_in r < s.horizon
  entry_below i r = go r.leg
    where
      go : (o : Option Leg)
          → option_map_or (λ l. ltb l.segment (length s.roads) && ltb l.entry s.horizon) o true ≡ true
          → option_map_or (λ l. eqb l.segment i) o false ≡ true → option_map_or (λ l. l.entry) o 0 < s.horizon
      go None legal of = absurd (let z : ◌≡◌ {A = ℕ} 0 1 = cc in omega arith)
      go (Some l) legal of = ltb-true _ _ (and_parts (ltb l.segment (length s.roads)) (ltb l.entry s.horizon) legal).1

-- the legs that stand are the records in use
pub total_used : (s : Shown) (kept : Bool) (rs : List LegRecord) → kept ≡ true
    → ((k : ℕ) → in_plan s (get_or rs k no_record) ≡ true)
    → total (bottom s kept (count_at rs)) ≡ count_used rs
unfolding total
total_used s kept rs keeps legal =
    sum_same_below (length s.roads) _ (λ i. count_by (is_of i) rs)
    (λ i known.
    sum_same_below s.horizon _ (λ e. count_at rs i e)
    (λ e within. bottom_at s kept (count_at rs) i e (record { keeps = keeps; known = known; within = within }))
    ∙ collect s.horizon entry_in (is_of i) (is_leg i) (by_entry i) rs no_record
    (λ k _. entry_below s i (get_or rs k no_record) (legal k)))
    ∙ collect (length s.roads) segment_in (λ r. is_some r.leg) is_of by_segment rs no_record
    (λ k _. segment_below s (get_or rs k no_record) (legal k))
