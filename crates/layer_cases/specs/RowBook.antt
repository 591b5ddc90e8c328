-- What a row book means, and that it is sound.
use Rattle.std.proofs.Common.{subst, arith}
use Rattle.std.specs.Prelude.{ℕ, zero, suc, ◌<◌, ◌≤◌, [], ◌∷◌, ◌==◌, nat_lt, slice_index_or}
use Rattle.std.proofs.lemmas.Bool.{and_left, and_right, cond-false, le-ltb, ne_eqb}
use Rattle.book.specs.Meaning.{Meaning, RoadFits, Sound, no_road}
use Rattle.layer_cases.specs.Row.{row_meaning, row_road}
use Rattle.layer_cases.specs.declared.row.RowBook.{RowBook}

abbrev pub row_of : RowBook → Meaning
row_of b = row_meaning b.slots b.limit b.row

road_fits : (slots limit : ℕ) → 1 ≤ slots → slots ≤ 64 → limit ≤ 255 → (i : ℕ) → i < 1
    → RoadFits 2 (slice_index_or (row_road slots limit ∷ []) i no_road)
road_fits slots limit takes short small zero known =
    record {
      start_known = omega arith;
      end_known = omega arith;
      no_loop = λ same. omega arith;
      takes_a_slot = takes;
      few_slots = short;
      small_count = small;
    }
road_fits slots limit takes short small (suc i) known = absurd (omega arith)

pub row_sound : (b : RowBook) → Sound (row_of b)
row_sound b =
    record {
      plan_fits = record {
        some_slot = omega arith;
        few_slots = omega arith;
        two_junctions = omega arith;
        few_junctions = omega arith;
        few_segments = omega arith;
        roads_fit = road_fits b.slots b.limit b.takes b.short b.small;
      };
      known_segments = λ i e past.
          cond-false _ _ _ (and_left (i == 0) (nat_lt e 20) (ne_eqb i 0 (λ none. omega arith)));
      known_entries = λ i e past. cond-false _ _ _ (and_right (i == 0) (nat_lt e 20) (le-ltb e 20 past));
      few_legs = subst (λ n. n ≤ 1024) b.counted b.few;
    }
