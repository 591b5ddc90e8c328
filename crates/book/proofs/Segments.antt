-- What the question for a segment tells.
use Rattle.std.proofs.Common.{◌≡◌, ℕ, ◌-◌, ◌<◌, ◌≤◌, Some, None, Option, sym, refl, ap, ◌∙◌, ⊎_elim, arith}
use Rattle.std.proofs.lemmas.Option.{slice_get-get_or, slice_get-map, slice_get_past}
use Rattle.std.proofs.lemmas.Bool.{cases_lt}
use Rattle.std.specs.List.{slice_get}
use Rattle.std.specs.Option.{option_map}
use Rattle.book.specs.Layered.{held_back, lower}
use Rattle.book.specs.Meaning.{Meaning, four, no_road, road, segment_of, segments}

module _ (m : Meaning) (i : ℕ) where
  pub segment_known : i < segments m → segment_of m i ≡ Some (four (road m i))
  segment_known known = ap (option_map four) (slice_get-get_or m.shown.roads i no_road known)

  pub segment_unknown : segments m ≤ i → segment_of m i ≡ None
  segment_unknown past = ap (option_map four) (slice_get_past m.shown.roads i past)

  pub segment_none : None ≡ segment_of m i → segments m ≤ i
  segment_none none =
      ⊎_elim
      (λ known. let some = segment_known known in absurd (let z : ◌≡◌ {A = ℕ} 0 1 = cc in omega arith))
      (λ past. past)
      (cases_lt i (segments m))

  pub segment_some : (numbers : ℕ × ℕ × ℕ × ℕ) → Some numbers ≡ segment_of m i
      → (i < segments m) × (numbers ≡ four (road m i))
  segment_some numbers some =
      ⊎_elim
      (λ known. let is = segment_known known in (known, cc))
      (λ past. let none = segment_unknown past in absurd (let z : ◌≡◌ {A = ℕ} 0 1 = cc in omega arith))
      (cases_lt i (segments m))

mapped_mapped : {A B C : Type 0} (f : A → B) (g : B → C) (o : Option A) → option_map g (option_map f o) ≡ option_map (λ x. g (f x)) o
mapped_mapped f g None = refl
mapped_mapped f g (Some x) = refl

-- the four numbers under a hold-back
abbrev pub lowered : ℕ → ℕ × ℕ × ℕ × ℕ → ℕ × ℕ × ℕ × ℕ
lowered held numbers = (numbers.0, numbers.1, numbers.2, numbers.3 - held)

pub segment_held : (held : ℕ) (m : Meaning) (i : ℕ)
    → segment_of (held_back held m) i ≡ option_map (lowered held) (segment_of m i)
segment_held held m i =
    ap (option_map four) (slice_get-map (lower held) m.shown.roads i)
    ∙ mapped_mapped (lower held) four (slice_get m.shown.roads i)
    ∙ sym (mapped_mapped four (lowered held) (slice_get m.shown.roads i))
