-- The timing of a route by its first and its last leg.
use Rattle.std.proofs.Common.{◌≡◌, ◌-◌, ◌<◌, List, [], ◌∷◌, length, get_or, Some, sym, refl, ap, ap₂, ◌∙◌, arith}
use Rattle.book.specs.Meaning.{Meaning}
use Rattle.book.specs.declared.legs.Leg.{Leg}
use Rattle.walks.specs.Walks.{end_of}
use Rattle.controller.specs.Timings.{last_leg, timing_of}

last_leg_at : (l : Leg) (legs : List Leg) (d : Leg) → last_leg l legs ≡ get_or (l ∷ legs) (length legs) d
last_leg_at l [] d = refl
last_leg_at l (k ∷ legs) d = last_leg_at k legs d

pub timing_by_ends : (m : Meaning) (legs : List Leg) (first last : Leg) → 0 < length legs
    → first ≡ get_or legs 0 first → last ≡ get_or legs (length legs - 1) last
    → Some (record { departure = first.entry; arrival = end_of m last; legs = length legs }) ≡ timing_of m legs
timing_by_ends m [] first last some at_first at_last = absurd (omega arith)
timing_by_ends m (l ∷ legs) first last some at_first at_last =
    ap₂ (λ (x y : Leg). Some (record { departure = x.entry; arrival = end_of m y; legs = length (l ∷ legs) })) at_first
    (at_last ∙ ap (λ k. get_or (l ∷ legs) k last) (omega arith) ∙ sym (last_leg_at l legs last))
