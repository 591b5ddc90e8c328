-- The first record of a section, byte by byte.
use Rattle.std.proofs.Common.{◌≡◌, ℕ, ◌+◌, ◌*◌, ◌≤◌, List, [], ◌∷◌, length, get_or, take, drop, ap, ◌∙◌, zero-add, arith}
use Rattle.plan.specs.declared.parts.Closure.{Closure}
use Rattle.plan.specs.declared.parts.Segment.{Segment}
use Rattle.sheet.specs.Format.{closure_layout, segment_layout}
use Rattle.sheet.specs.Records.{told, told_all}
use Rattle.sheet.proofs.Layouts.{closure_faithful, segment_faithful}
use Rattle.sheet.proofs.RecordLists.{told_all_more}

-- a number of two bytes
abbrev pub two : ℕ → ℕ → ℕ
two high low = high * 256 + low

two_bytes : (high low : ℕ) → (0 + high) * 256 + low ≡ two high low
two_bytes high low = ap (λ n. n * 256 + low) (zero-add high)

abbrev pub segment_at : List ℕ → Segment
segment_at bytes = record {
  start = get_or bytes 0 0;
  end = get_or bytes 1 0;
  length = two (get_or bytes 2 0) (get_or bytes 3 0);
  lanes = get_or bytes 4 0;
  class = get_or bytes 5 0;
}

segment_told : (bytes : List ℕ) → 6 ≤ length bytes → told segment_layout (take 6 bytes) ≡ segment_at bytes
segment_told [] long = absurd (omega arith)
segment_told (a ∷ []) long = absurd (omega arith)
segment_told (a ∷ b ∷ []) long = absurd (omega arith)
segment_told (a ∷ b ∷ c ∷ []) long = absurd (omega arith)
segment_told (a ∷ b ∷ c ∷ d ∷ []) long = absurd (omega arith)
segment_told (a ∷ b ∷ c ∷ d ∷ e ∷ []) long = absurd (omega arith)
segment_told (a ∷ b ∷ c ∷ d ∷ e ∷ f ∷ rest) long =
    λ i. record {
      start = zero-add a i;
      end = zero-add b i;
      length = two_bytes c d i;
      lanes = zero-add e i;
      class = zero-add f i;
    }

pub first_segment : (section : List ℕ) → 6 ≤ length section
    → told_all segment_layout section ≡ segment_at section ∷ told_all segment_layout (drop 6 section)
first_segment section long =
    told_all_more segment_layout segment_faithful section long
    ∙ ap (λ g. g ∷ told_all segment_layout (drop 6 section)) (segment_told section long)

abbrev pub closure_at : List ℕ → Closure
closure_at bytes = record {
  segment = get_or bytes 0 0;
  first = two (get_or bytes 1 0) (get_or bytes 2 0);
  end = two (get_or bytes 3 0) (get_or bytes 4 0);
}

closure_told : (bytes : List ℕ) → 5 ≤ length bytes → told closure_layout (take 5 bytes) ≡ closure_at bytes
closure_told [] long = absurd (omega arith)
closure_told (a ∷ []) long = absurd (omega arith)
closure_told (a ∷ b ∷ []) long = absurd (omega arith)
closure_told (a ∷ b ∷ c ∷ []) long = absurd (omega arith)
closure_told (a ∷ b ∷ c ∷ d ∷ []) long = absurd (omega arith)
closure_told (a ∷ b ∷ c ∷ d ∷ e ∷ rest) long =
    λ i. record { segment = zero-add a i; first = two_bytes b c i; end = two_bytes d e i }

pub first_closure : (section : List ℕ) → 5 ≤ length section
    → told_all closure_layout section ≡ closure_at section ∷ told_all closure_layout (drop 5 section)
first_closure section long =
    told_all_more closure_layout closure_faithful section long
    ∙ ap (λ k. k ∷ told_all closure_layout (drop 5 section)) (closure_told section long)
