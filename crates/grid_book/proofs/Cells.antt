-- The bytes of a grid: the places of segments and slots, and what one leg more writes.
use Rattle.std.proofs.Common.{◌≡◌, ℕ, zero, suc, ◌+◌, ◌-◌, ◌*◌, ◌/◌, ◌%◌, ◌<◌, ◌≤◌, true, false, not, ltb, ◌≢◌, ◌⊎◌, List, ◌++◌, replicate, length, get_or, take, drop, set, sym, ap, ◌∙◌, inl, inr, leb, arith, length-set}
use Rattle.std.proofs.lemmas.Bool.{and_from, cases_Bool, false≢true, leb-true, lt-ltb}
use Rattle.std.proofs.lemmas.Nat.{div-mul-add, mod-mul-add, mul-add-lt}
use Rattle.std.proofs.lemmas.List.{length-replicate, get_or-replicate, get_or_append_left, get_or-drop, get_or-set_other, get_or-set_same, get_or-take, length-drop, length-take}
use Rattle.book.proofs.Bottoms.{Keeps, bottom_at, bottom_more, bottom_none, bottom_row, total_bottom_none}
use Rattle.book.proofs.Calling.{admitted_kept}
use Rattle.book.proofs.Loading.{total_counts}
use Rattle.book.specs.Bottom.{bottom, keeps_at, no_legs}
use Rattle.book.specs.Meaning.{Shown, ShownFits, plus, road, total}
use Rattle.book.specs.Loads.{admissible}
use Rattle.book.specs.Rows.{IsRow}
use Rattle.book.specs.declared.legs.Leg.{Leg}
use Rattle.book.specs.declared.rows.Row.{Row}
use Rattle.grid_book.specs.Grid.{byte_at, bytes_of, grid_meaning, suffices}

-- ---- places

-- the place of a segment and a slot of the plan is within the grid
pub place_within : (h n i e : ℕ) → i < n → e < h → i * h + e < n * h
place_within h n i e known within = omega (arith, mul-add-lt i h e n known within)

-- so are all places of a segment
pub row_within : (h n i : ℕ) → i < n → i * h + h ≤ n * h
row_within zero n i known = omega arith
row_within (suc h) n i known = omega (arith, place_within (suc h) n i h known (omega arith))

-- the place of a segment and a slot is theirs alone
place_apart : (h i e j k : ℕ) → e < h → k < h → (i ≢ j) ⊎ (e ≢ k) → j * h + k ≢ i * h + e
place_apart h i e j k within also (inl apart) same =
    apart (sym (sym (div-mul-add j h k also) ∙ ap (λ n. n / h) same ∙ div-mul-add i h e within))
place_apart h i e j k within also (inr apart) same =
    apart (sym (sym (mod-mul-add j h k also) ∙ ap (λ n. n % h) same ∙ mod-mul-add i h e within))

module _ (s : Shown) (cells : List ℕ) where
  room : suffices s cells ≡ true → bytes_of s ≤ length cells
  room = leb-true (bytes_of s) (length cells)

  -- ---- the row of a segment

  -- its bytes, slot after slot
  module _ (i first n : ℕ) (keeps : suffices s cells ≡ true) (known : i < length s.roads)
      (at : first ≡ i * s.horizon) (is : n ≡ s.horizon) where
    pub row_ends : first + n ≤ length cells
    row_ends = omega (arith, room keeps, row_within s.horizon (length s.roads) i known, at, is)

    row_length : length (take n (drop first cells)) ≡ s.horizon
    row_length = length-take n (drop first cells) ∙ omega (arith, length-drop first cells, row_ends, is)

    row_stands : (e : ℕ) → (grid_meaning s cells).standing i e ≡ get_or (take n (drop first cells)) e 0
    row_stands =
        bottom_row s (suffices s cells) (byte_at s cells) i (take n (drop first cells)) keeps known row_length
        (λ e within.
        sym (get_or-take n (drop first cells) e 0 (omega (arith, is, within)) ∙ get_or-drop first cells e 0
        ∙ ap (λ k. get_or cells (k + e) 0) at))

    pub is_row : (row : Row) → row.entering.now ≡ take n (drop first cells)
        → row.slots ≡ (road (grid_meaning s cells) i).slots → row.limit ≡ (road (grid_meaning s cells) i).count
        → IsRow (grid_meaning s cells) i row
    is_row row bytes slots limit =
        record {
          known = known;
          unbarred = λ e. ap not keeps;
          long = ap length bytes ∙ row_length;
          counts = λ e. row_stands e ∙ ap (λ xs. get_or xs e 0) (sym bytes);
          slots = slots;
          limit = limit;
        }

  -- ---- a leg that the book does not keep

  pub unkept : (l : Leg) → ShownFits s → keeps_at s (suffices s cells) l.segment l.entry ≡ false
      → admissible (grid_meaning s cells) l ≡ false
  unkept l fits none =
      elim (cases_Bool (admissible (grid_meaning s cells) l)) [
        | inl admitted ↦
            let at = admitted_kept s (suffices s cells) (byte_at s cells) l fits admitted in
            let told = and_from (suffices s cells) _ at.keeps
            (and_from (ltb l.segment (length s.roads)) _ (lt-ltb l.segment (length s.roads) at.known)
            (lt-ltb l.entry s.horizon at.within)) in
            absurd (false≢true (sym none ∙ told))
        | inr not_admitted ↦ not_admitted
      ]

  -- ---- a byte is written

  module _ (l : Leg) (p : ℕ) (at : Keeps s (suffices s cells) l.segment l.entry)
      (is : p ≡ l.segment * s.horizon + l.entry) where
    pub reads : get_or cells p 0 ≡ (grid_meaning s cells).standing l.segment l.entry
    reads = ap (λ q. get_or cells q 0) is ∙ sym (bottom_at s (suffices s cells) (byte_at s cells) l.segment l.entry at)

    -- the memory suffices as before
    still : (n : ℕ) → suffices s (set cells p n) ≡ suffices s cells
    still n = ap (leb (bytes_of s)) (length-set cells p n)

    written : (n : ℕ) → byte_at s (set cells p n) l.segment l.entry ≡ n
    written n =
        ap (λ q. get_or (set cells p n) q 0) (sym is)
        ∙ get_or-set_same cells p n 0
        (omega (
          arith,
          is,
          room at.keeps,
          place_within s.horizon (length s.roads) l.segment l.entry at.known at.within,
        ))

    kept_elsewhere : (n i e : ℕ) → Keeps s (suffices s cells) i e → (l.segment ≢ i) ⊎ (l.entry ≢ e)
        → byte_at s (set cells p n) i e ≡ byte_at s cells i e
    kept_elsewhere n i e there apart =
        get_or-set_other cells p (i * s.horizon + e) n 0
        (λ same. place_apart s.horizon l.segment l.entry i e at.within there.within apart (same ∙ is))

    read_there : byte_at s cells l.segment l.entry ≡ get_or cells p 0
    read_there = ap (λ q. get_or cells q 0) (sym is)

    pub one_more : grid_meaning s (set cells p (get_or cells p 0 + 1)) ≡ plus (grid_meaning s cells) l
    one_more =
        let n = get_or cells p 0 + 1 in
        ap (λ kept. bottom s kept (byte_at s (set cells p n))) (still n)
        ∙ bottom_more s (suffices s cells) (byte_at s cells) (byte_at s (set cells p n)) l at
        (omega (arith, written n, read_there)) (kept_elsewhere n)

    pub counts_more : total (grid_meaning s (set cells p (get_or cells p 0 + 1))) ≡ total (grid_meaning s cells) + 1
    counts_more = ap total one_more ∙ total_counts (grid_meaning s cells) l at.known at.within

    module _ (some : 1 ≤ get_or cells p 0) where
      pub one_less : grid_meaning s cells ≡ plus (grid_meaning s (set cells p (get_or cells p 0 - 1))) l
      one_less =
          let n = get_or cells p 0 - 1 in
          bottom_more s (suffices s cells) (byte_at s (set cells p n)) (byte_at s cells) l at
          (omega (arith, written n, read_there, some))
          (λ i e there apart. sym (kept_elsewhere n i e there apart))
          ∙ ap (λ kept. plus (bottom s kept (byte_at s (set cells p n))) l) (sym (still n))

      pub counts_less : total (grid_meaning s cells)
          ≡ total (grid_meaning s (set cells p (get_or cells p 0 - 1))) + 1
      counts_less =
          ap total one_less ∙ total_counts (grid_meaning s (set cells p (get_or cells p 0 - 1))) l at.known at.within

-- ---- no leg

-- where the memory suffices, the bytes that the book uses are cleared
pub grid_none : (s : Shown) (cells : List ℕ)
    → (suffices s cells ≡ true → (k : ℕ) → k < bytes_of s → get_or cells k 0 ≡ 0)
    → grid_meaning s cells ≡ no_legs s (not (suffices s cells))
grid_none s cells cleared =
    bottom_none s (suffices s cells) (byte_at s cells)
    (λ i e at. cleared at.keeps _ (place_within s.horizon (length s.roads) i e at.known at.within))

pub counts_none : (s : Shown) (cells : List ℕ)
    → (suffices s cells ≡ true → (k : ℕ) → k < bytes_of s → get_or cells k 0 ≡ 0) → total (grid_meaning s cells) ≡ 0
counts_none s cells cleared =
    total_bottom_none s (suffices s cells) (byte_at s cells)
    (λ i e at. cleared at.keeps _ (place_within s.horizon (length s.roads) i e at.known at.within))

-- the first n bytes of memory are filled with 0
pub filled : (n : ℕ) (part memory now : List ℕ) → part ≡ replicate (length (take n memory)) 0 → now ≡ part ++ drop n memory
    → n ≤ length memory → (k : ℕ) → k < n → get_or now k 0 ≡ 0
filled n part memory now is joined enough k below =
    let long : k < length (take n memory) = omega (arith, length-take n memory, enough, below) in
    ap (λ xs. get_or xs k 0) joined
    ∙ get_or_append_left part (drop n memory) 0 k (omega (arith, ap length is, length-replicate {A = ℕ} (length (take n memory)) 0, long))
    ∙ ap (λ xs. get_or xs k 0) is ∙ get_or-replicate (length (take n memory)) k 0 0 long
