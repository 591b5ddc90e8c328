-- A book decides the legs of a segment by the row of its entering counts.
use Rattle.std.proofs.Common.{◌≡◌, ℕ, ◌+◌, ◌-◌, ◌<◌, ◌≤◌, Bool, true, false, cond, not, ◌&&◌, ltb, leb, List, length, get_or, is_some, Some, None, Option, sym, ap, ◌∙◌, ap₂, ⊎_elim, arith}
use mathlib.Core.Path.{fun_ext}
use Rattle.std.proofs.lemmas.Bool.{and_left, and_right, cases_lt, le-ltb, lt-ltb}
use Rattle.book.specs.Below.{all_below}
use Rattle.book.specs.Entries.{NextEntry}
use Rattle.book.specs.Layered.{held_back}
use Rattle.book.specs.Loads.{admissible, has_room, holds, load, load_below}
use Rattle.book.specs.Meaning.{Meaning, horizon, road, segments}
use Rattle.book.specs.Rows.{FirstFit, entering, fits, row_load}
use Rattle.book.specs.declared.legs.Leg.{Leg}
use Rattle.book.proofs.Fitting.{fits_ends}
use Rattle.book.proofs.Layering.{road_held, segments_held}
use Rattle.book.proofs.Sums.{sum_same, sum_zero}

-- ---- legs that no book admits, whatever is held back

module _ (held : ℕ) (m : Meaning) (l : Leg) where
  pub unknown_not_admitted : segments m ≤ l.segment → admissible (held_back held m) l ≡ false
  unfolding admissible
  unknown_not_admitted past =
      and_left (ltb l.segment (segments (held_back held m))) _
      (le-ltb l.segment (segments (held_back held m)) (omega (arith, past, segments_held held m)))

  pub barred_not_admitted : m.bars l.segment l.entry ≡ true → admissible (held_back held m) l ≡ false
  unfolding admissible
  barred_not_admitted barred =
      and_right (ltb l.segment (segments (held_back held m))) _
      (and_right (leb (l.entry + (road (held_back held m) l.segment).slots) (horizon m)) _
      (and_left (not (m.bars l.segment l.entry)) _ (ap not barred)))

-- ---- the load of a segment whose entering counts a row has

pub load_told : (m : Meaning) (i u : ℕ) (row : List ℕ) → u ≡ (road m i).slots → length row ≡ horizon m
    → ((e : ℕ) → m.standing i e ≡ get_or row e 0) → (t : ℕ) → row_load row u t ≡ load m i t
load_told m i u row slots long each t =
    ap₂ (λ n x. load_below n (entering row) x t) long slots
    ∙ ap (λ f. load_below (horizon m) f (road m i).slots t) (sym (fun_ext each))

-- where no leg stands there is none
pub load_none : (m : Meaning) (i t : ℕ) → ((e : ℕ) → m.standing i e ≡ 0) → load m i t ≡ 0
unfolding load_below
load_none m i t none =
    sum_same (horizon m) _ (λ _. 0)
    (λ e. ap (λ n. cond (holds e (road m i).slots t) n 0) (none e) ∙ nothing (holds e _ t))
    ∙ sum_zero (horizon m)
  where
    nothing : (told : Bool) → cond {A = ℕ} told 0 0 ≡ 0
    nothing told = grind arith

-- ---- the legs of a segment whose entering counts a row has

module _ (held : ℕ) (m : Meaning) (i : ℕ) (row : List ℕ) (known : i < segments m)
    (open' : (e : ℕ) → m.bars i e ≡ false) (long : length row ≡ horizon m)
    (each : (e : ℕ) → m.standing i e ≡ get_or row e 0) where
  admitted_fits : (e : ℕ)
      → admissible (held_back held m) (record { segment = i; entry = e })
      ≡ fits row (road m i).slots ((road m i).count - held) e
  unfolding admissible has_room fits
  admitted_fits e =
      let l : Leg = record { segment = i; entry = e } in
      let decide : ℕ → ℕ → ℕ → (ℕ → ℕ) → Bool = λ u n h f.
      leb (e + u) h && all_below u (λ k. ltb (load_below h f u (e + k)) n) in
      ap (λ b. b && (leb (e + (road (held_back held m) i).slots) (horizon m)
      && (not (m.bars i e) && has_room (held_back held m) l)))
      (lt-ltb i (segments (held_back held m)) (omega (arith, known, segments_held held m)))
      ∙ ap (λ b. leb (e + (road (held_back held m) i).slots) (horizon m) && (not b && has_room (held_back held m) l))
      (open' e)
      ∙ ap (λ r. decide r.slots r.count (horizon m) (m.standing i)) (road_held held m i known)
      ∙ ap₂ (decide (road m i).slots ((road m i).count - held)) (sym long) (fun_ext each)

  -- the row is asked with the segment's travel slots and its critical count, less what is held back
  module _ (takes : 1 ≤ (road m i).slots) (u limit : ℕ) (slots : u ≡ (road m i).slots)
      (left : limit ≡ (road m i).count - held) where
    -- whether one entry fits is whether it is admissible
    pub admitted_told : (e : ℕ) (answer : Option ℕ) → (1 ≤ u → FirstFit row e e u limit answer)
        → is_some answer ≡ admissible (held_back held m) (record { segment = i; entry = e })
    admitted_told e None none =
        sym (admitted_fits e ∙ sym (ap₂ (λ x y. fits row x y e) slots left)
        ∙ none (omega arith) e (omega arith) (omega arith))
    admitted_told e (Some at) some =
        let told = some (omega arith) in
        let same : at ≡ e = omega (arith, told.later, told.by_then) in
        sym (admitted_fits e
        ∙ sym (ap₂ (λ x y. fits row x y e) slots left)
        ∙ ap (fits row u limit) (sym same)
        ∙ told.here)

    -- the first entry that fits is the next one, where legs that enter after `to` end past the horizon
    pub next_told : (from to : ℕ) (answer : Option ℕ) → horizon m ≤ to + u
        → (1 ≤ u → FirstFit row from to u limit answer) → NextEntry (held_back held m) i from answer
    next_told from to None ends none =
        λ k later.
        admitted_fits k
        ∙ sym (ap₂ (λ x y. fits row x y k) slots left)
        ∙ ⊎_elim
        (λ past. fits_ends row u limit k (omega (arith, long, ends, past)))
        (λ by_then. none (omega arith) k later by_then)
        (cases_lt to k)
    next_told from to (Some at) ends some =
        let told = some (omega arith) in
        let is : (k : ℕ) → admissible (held_back held m) (record { segment = i; entry = k }) ≡ fits row u limit k =
        λ k. admitted_fits k ∙ sym (ap₂ (λ x y. fits row x y k) slots left) in
        record {
          later = told.later;
          fits = is at ∙ told.here;
          first = λ k later admitted. told.first k later (sym (is k) ∙ admitted);
        }
