-- What a book means once one of the records of its memory is written.
use Rattle.std.proofs.Common.{◌≡◌, ℕ, zero, suc, ◌+◌, ◌<◌, ◌≤◌, Bool, true, not, cond, ◌&&◌, eqb, ltb, leb, ◌≢◌, List, [], ◌∷◌, length, get_or, take, drop, set, replicate, ◌++◌, Some, None, Option, is_some, sym, refl, ap, ◌∙◌, subst, inl, inr, ⊎_elim, arith, length-set}
use Rattle.std.proofs.lemmas.List.{get_or-replicate, get_or-set_other, get_or-set_same, get_or-take, get_or_past, length-replicate, length-take}
use Rattle.std.proofs.Math.Seq.{drop-append_seam, take-append_seam}
use Rattle.std.proofs.lemmas.Bool.{and_from, cases_Bool, cases_eq, cases_lt, cond-false, cond-true, false≢true, le-leb, leb-true, lt-ltb}
use Rattle.plan.specs.Limits.{most_count, most_legs, most_slots}
use Rattle.book.proofs.Bottoms.{Keeps, bottom_more, bottom_none, bottom_row, shut_stands, total_bottom_none}
use Rattle.book.proofs.Loading.{total_counts}
use Rattle.book.proofs.Reserving.{one_here}
use Rattle.book.specs.Bottom.{bottom, keeps_at, no_legs}
use Rattle.book.specs.Meaning.{Shown, one, plus, road, total}
use Rattle.book.specs.Rows.{IsRow}
use Rattle.book.specs.declared.legs.Leg.{Leg}
use Rattle.book.specs.declared.rows.Row.{Row}
use Rattle.leg_book.specs.Records.{count_at, in_plan, is_leg, legs_meaning, no_record, part_used, record_of, suffices}
use Rattle.leg_book.specs.declared.leg_record.LegRecord.{LegRecord}
use Rattle.leg_book.proofs.Collecting.{total_used}
use Rattle.leg_book.proofs.Records.{count_all, count_none, leg_in_plan, leg_is, leg_less, leg_more, one_elsewhere, used_less}

-- each record in use is a leg of the plan
abbrev pub Legal : Shown → List LegRecord → Type 0
Legal s rs = (k : ℕ) → in_plan s (get_or rs k no_record) ≡ true

-- no leg stands more often than the largest critical count
abbrev pub Small : List LegRecord → Type 0
Small rs = (i e : ℕ) → count_at rs i e ≤ most_count

pub part_length : (memory : List LegRecord) → most_legs ≤ length memory → length (part_used memory) ≡ most_legs
part_length memory enough = length-take most_legs memory ∙ omega (arith, enough)

-- the part used of memory, where one of its records is written
take_set_within : {X : Type 0} (n : ℕ) (xs : List X) (k : ℕ) (y : X) → k < n → take n (set xs k y) ≡ set (take n xs) k y
take_set_within zero xs k y within = absurd (omega arith)
take_set_within (suc n) [] k y within = refl
take_set_within (suc n) (x ∷ xs) zero y within = refl
take_set_within (suc n) (x ∷ xs) (suc k) y within = ap (λ ys. x ∷ ys) (take_set_within n xs k y (omega arith))

at_most_one : (b : Bool) → cond {A = ℕ} b 1 0 ≤ 1
at_most_one b = grind arith

-- the record of a leg that the book keeps
pub kept_in_plan : (s : Shown) (memory : List LegRecord) (l : Leg) → Keeps s (suffices memory) l.segment l.entry
    → in_plan s (record_of l) ≡ true
kept_in_plan s memory l at =
    and_from (ltb l.segment (length s.roads)) _ (lt-ltb l.segment (length s.roads) at.known)
    (lt-ltb l.entry s.horizon at.within)

some_leg : (o : Option Leg) → o ≢ None → is_some o ≡ true
some_leg None not_none = absurd (not_none refl)
some_leg (Some l) not_none = refl

-- memory of which the counts differ by one leg
module _ (s : Shown) (less more : List LegRecord) (l : Leg) (long : length more ≡ length less)
    (by_one : (i e : ℕ) → count_at (part_used more) i e ≡ count_at (part_used less) i e + one l i e)
    (at : Keeps s (suffices less) l.segment l.entry) where
  pub means_more : legs_meaning s more ≡ plus (legs_meaning s less) l
  means_more =
      ap (λ n. bottom s (leb most_legs n) (count_at (part_used more))) long
      ∙ bottom_more s (suffices less) (count_at (part_used less)) (count_at (part_used more)) l at
      (omega (arith, by_one l.segment l.entry, one_here l))
      (λ i e _ apart. omega (arith, by_one i e, one_elsewhere l i e apart))

  pub counts_more : total (legs_meaning s more) ≡ total (legs_meaning s less) + 1
  counts_more = ap total means_more ∙ total_counts (legs_meaning s less) l at.known at.within

module _ (s : Shown) (memory : List LegRecord) (enough : most_legs ≤ length memory) (k : ℕ) (below : k < most_legs) where
  within : k < length (part_used memory)
  within = omega (arith, enough, below, length-take most_legs memory)

  -- the part used, once the record k is written
  written : (y : LegRecord) → part_used (set memory k y) ≡ set (part_used memory) k y
  written y = take_set_within most_legs memory k y below

  pub stays_legal : (y : LegRecord) → in_plan s y ≡ true → Legal s (part_used memory)
      → Legal s (part_used (set memory k y))
  stays_legal y new legal =
      subst (Legal s) (sym (written y))
      (λ j.
      ⊎_elim
      (λ same.
      subst (λ x. in_plan s (get_or (set (part_used memory) k y) x no_record) ≡ true) same
      (ap (in_plan s) (get_or-set_same (part_used memory) k y no_record within) ∙ new))
      (λ apart.
      ap (in_plan s) (get_or-set_other (part_used memory) k j y no_record (λ same. apart (sym same))) ∙ legal j)
      (cases_eq k j))

  -- a leg more
  module _ (l : Leg) (unused : (get_or (part_used memory) k no_record).leg ≡ None) where
    pub more_by_one : (i e : ℕ) → count_at (part_used (set memory k (record_of l))) i e
        ≡ count_at (part_used memory) i e + one l i e
    more_by_one i e =
        ap (λ rs. count_at rs i e) (written (record_of l)) ∙ leg_more (part_used memory) k within l unused i e

    pub stays_small : count_at (part_used memory) l.segment l.entry < most_count → Small (part_used memory)
        → Small (part_used (set memory k (record_of l)))
    stays_small few small i e =
        ⊎_elim
        (λ segment.
        ⊎_elim
        (λ entry.
        let same : count_at (part_used memory) i e ≡ count_at (part_used memory) l.segment l.entry =
        ap (λ x. count_at (part_used memory) x e) (sym segment) ∙ ap (count_at (part_used memory) l.segment) (sym entry) in
        let once = at_most_one (eqb l.segment i && eqb l.entry e) in
        omega (arith, more_by_one i e, same, once, few))
        (λ apart. omega (arith, more_by_one i e, one_elsewhere l i e (inr apart), small i e))
        (cases_eq l.entry e))
        (λ apart. omega (arith, more_by_one i e, one_elsewhere l i e (inl apart), small i e))
        (cases_eq l.segment i)

  -- a leg less
  pub less_by_one : (l : Leg) → (get_or (part_used memory) k no_record).leg ≡ Some l
      → (i e : ℕ) → count_at (part_used memory) i e ≡ count_at (part_used (set memory k no_record)) i e + one l i e
  less_by_one l is i e =
      leg_less (part_used memory) k within l is i e ∙ ap (λ rs. count_at rs i e + one l i e) (sym (written no_record))

-- ---- what stands, where the memory suffices

module _ (s : Shown) (memory : List LegRecord) (enough : most_legs ≤ length memory) where
  kept : suffices memory ≡ true
  kept = le-leb most_legs (length memory) enough

  -- a record in use is a leg that the book keeps
  pub found_kept : (l : Leg) (k : ℕ) → (get_or (part_used memory) k no_record).leg ≡ Some l → Legal s (part_used memory)
      → Keeps s (suffices memory) l.segment l.entry
  found_kept l k is legal =
      let plan = leg_in_plan s (get_or (part_used memory) k no_record) l is (legal k) in
      record { keeps = kept; known = plan.0; within = plan.1 }

  -- no record has a leg that is not in the plan
  pub stands : (i e : ℕ) → Legal s (part_used memory)
      → (legs_meaning s memory).standing i e ≡ count_at (part_used memory) i e
  stands i e legal =
      elim (cases_Bool (keeps_at s (suffices memory) i e)) [
        | inl told ↦ cond-true (keeps_at s (suffices memory) i e) _ 0 told
        | inr not_told ↦
            let none = count_none (is_leg i e) (part_used memory) no_record
            (λ k _.
            elim (cases_Bool (is_leg i e (get_or (part_used memory) k no_record))) [
              | inl is ↦
                  let at = found_kept (record { segment = i; entry = e }) k
                  (leg_is i e (get_or (part_used memory) k no_record) is) legal in
                  let told = and_from (suffices memory) _ kept
                  (and_from (ltb i (length s.roads)) _ (lt-ltb i (length s.roads) at.known) (lt-ltb e s.horizon at.within)) in
                  absurd (false≢true (sym not_told ∙ told))
              | inr is_not ↦ is_not
            ]) in
            cond-false (keeps_at s (suffices memory) i e) _ 0 not_told ∙ sym none
      ]

  -- no record has the leg
  absent : (i e : ℕ) → Legal s (part_used memory)
      → ((k : ℕ) → k < most_legs → (get_or (part_used memory) k no_record).leg ≢ Some (record { segment = i; entry = e }))
      → (legs_meaning s memory).standing i e ≡ 0
  absent i e legal none =
      stands i e legal
      ∙ count_none (is_leg i e) (part_used memory) no_record
      (λ k inside.
      elim (cases_Bool (is_leg i e (get_or (part_used memory) k no_record))) [
        | inl is ↦
            absurd (none k (omega (arith, inside, length-take most_legs memory))
            (leg_is i e (get_or (part_used memory) k no_record) is))
        | inr is_not ↦ is_not
      ])

  -- all records are in use
  pub full : Legal s (part_used memory)
      → ((k : ℕ) → k < most_legs → (get_or (part_used memory) k no_record).leg ≢ None)
      → total (legs_meaning s memory) ≡ most_legs
  full legal none =
      total_used s (suffices memory) (part_used memory) kept legal
      ∙ count_all (λ r. is_some r.leg) (part_used memory) no_record
      (λ k inside. some_leg (get_or (part_used memory) k no_record).leg
      (none k (omega (arith, inside, length-take most_legs memory))))
      ∙ part_length memory enough

  -- some record is not in use
  pub not_full : (k : ℕ) → k < most_legs → (get_or (part_used memory) k no_record).leg ≡ None
      → Legal s (part_used memory) → total (legs_meaning s memory) < most_legs
  not_full k below unused legal =
      omega (
        arith,
        total_used s (suffices memory) (part_used memory) kept legal,
        used_less (part_used memory) k (omega (arith, enough, below, length-take most_legs memory))
            (record { segment = 0; entry = 0 }) unused,
        part_length memory enough,
      )

  -- the row of a segment, in a table of how many legs enter at each slot
  pub is_row : (i h : ℕ) (table : List ℕ) (row : Row) → i < length s.roads → s.horizon ≤ most_slots → h ≡ s.horizon
      → length table ≡ most_slots
      → ((e : ℕ) → e < most_slots → get_or table e 0 ≡ count_at (part_used memory) i e)
      → row.entering.now ≡ take h table → row.slots ≡ (road (legs_meaning s memory) i).slots
      → row.limit ≡ (road (legs_meaning s memory) i).count → IsRow (legs_meaning s memory) i row
  is_row i h table row known short is long counts bytes slots limit =
      let ends : length (take h table) ≡ s.horizon = length-take h table ∙ omega (arith, short, long, is) in
      record {
        known = known;
        unbarred = λ e. ap not kept;
        long = ap length bytes ∙ ends;
        counts = λ e.
            bottom_row s (suffices memory) (count_at (part_used memory)) i (take h table) kept known ends
            (λ e within. sym (get_or-take h table e 0 (omega (arith, is, within)) ∙ counts e (omega (arith, short, within)))) e
            ∙ ap (λ xs. get_or xs e 0) (sym bytes);
        slots = slots;
        limit = limit;
      }

-- ---- a leg less

module _ (s : Shown) (memory : List LegRecord) (enough : most_legs ≤ length memory) (k : ℕ) (below : k < most_legs)
    (l : Leg) (is : (get_or (part_used memory) k no_record).leg ≡ Some l) (legal : Legal s (part_used memory)) where
  at_less : Keeps s (suffices (set memory k no_record)) l.segment l.entry
  at_less =
      let at = found_kept s memory enough l k is legal in
      record {
        keeps = ap (leb most_legs) (length-set memory k no_record) ∙ at.keeps;
        known = at.known;
        within = at.within;
      }

  pub means_less : legs_meaning s memory ≡ plus (legs_meaning s (set memory k no_record)) l
  means_less =
      means_more s (set memory k no_record) memory l (sym (length-set memory k no_record))
      (less_by_one s memory enough k below l is) at_less

  pub counts_less : total (legs_meaning s memory) ≡ total (legs_meaning s (set memory k no_record)) + 1
  counts_less =
      counts_more s (set memory k no_record) memory l (sym (length-set memory k no_record))
      (less_by_one s memory enough k below l is) at_less

  pub found_stands : (legs_meaning s memory).standing l.segment l.entry ≢ 0
  found_stands none =
      omega (
        arith,
        none,
        stands s memory enough l.segment l.entry legal,
        less_by_one s memory enough k below l is l.segment l.entry,
        one_here l,
      )

-- ---- no leg found

-- where no record has the leg, it does not stand, whether the memory suffices or not
pub not_found : (s : Shown) (memory : List LegRecord) (i e : ℕ) → (most_legs ≤ length memory → Legal s (part_used memory))
    → (most_legs ≤ length memory → (k : ℕ) → k < most_legs
    → (get_or (part_used memory) k no_record).leg ≢ Some (record { segment = i; entry = e }))
    → (legs_meaning s memory).standing i e ≡ 0
not_found s memory i e legal none =
    elim (cases_Bool (suffices memory)) [
      | inl told ↦
          let enough = leb-true most_legs (length memory) told in absent s memory enough i e (legal enough) (none enough)
      | inr not_told ↦ shut_stands s (suffices memory) (count_at (part_used memory)) i not_told e
    ]

-- ---- no leg

-- memory of which the part used is cleared, if there is as much as a book needs
module _ (s : Shown) (memory : List LegRecord)
    (cleared : most_legs ≤ length memory → part_used memory ≡ replicate most_legs no_record) where
  pub all_unused : most_legs ≤ length memory → (k : ℕ) → get_or (part_used memory) k no_record ≡ no_record
  all_unused enough k =
      ap (λ rs. get_or rs k no_record) (cleared enough)
      ∙ ⊎_elim
      (λ below. get_or-replicate most_legs k no_record no_record below)
      (λ past.
      get_or_past (replicate most_legs no_record) k no_record
      (omega (arith, past, length-replicate {A = LegRecord} most_legs no_record)))
      (cases_lt k most_legs)

  pub no_leg_at : most_legs ≤ length memory → (i e : ℕ) → count_at (part_used memory) i e ≡ 0
  no_leg_at enough i e =
      count_none (is_leg i e) (part_used memory) no_record (λ k _. ap (is_leg i e) (all_unused enough k))

  pub legs_none : legs_meaning s memory ≡ no_legs s (not (suffices memory))
  legs_none =
      bottom_none s (suffices memory) (count_at (part_used memory))
      (λ i e at. no_leg_at (leb-true most_legs (length memory) at.keeps) i e)

  pub counts_none : total (legs_meaning s memory) ≡ 0
  counts_none =
      total_bottom_none s (suffices memory) (count_at (part_used memory))
      (λ i e at. no_leg_at (leb-true most_legs (length memory) at.keeps) i e)

-- the part used of memory that begins with a filled part
pub filled : (part memory now : List LegRecord) → most_legs ≤ length memory
    → part ≡ replicate (length (take most_legs memory)) no_record → now ≡ part ++ drop most_legs memory
    → (part_used now ≡ replicate most_legs no_record) × (drop most_legs now ≡ drop most_legs memory)
filled part memory now enough is joined =
    let n : length (take most_legs memory) ≡ most_legs = part_length memory enough in
    let whole : part ≡ replicate most_legs no_record = is ∙ ap (λ k. replicate k no_record) n in
    let long : length part ≡ most_legs = ap length whole ∙ length-replicate {A = LegRecord} most_legs no_record in (
      ap (take most_legs) joined ∙ ap (λ k. take k (part ++ drop most_legs memory)) (sym long)
          ∙ take-append_seam part (drop most_legs memory) ∙ whole,
      ap (drop most_legs) joined ∙ ap (λ k. drop k (part ++ drop most_legs memory)) (sym long)
          ∙ drop-append_seam part (drop most_legs memory),
    )
