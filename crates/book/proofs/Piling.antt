-- Layers over layers: a hold-back over a hold-back, and a hold-back over closures.
use Rattle.std.proofs.Common.{◌≡◌, ℕ, ◌+◌, ◌-◌, ◌<◌, min, Bool, not, ◌&&◌, ◌||◌, List, length, get_or, sym, ap, ◌∙◌, ⊎_elim, arith}
use mathlib.Core.Path.{fun_ext}
use Rattle.std.proofs.lemmas.List.{ext_get_or}
use Rattle.std.proofs.lemmas.Bool.{cases_lt}
use Rattle.plan.specs.Limits.{most_count}
use Rattle.plan.specs.declared.parts.Closure.{Closure}
use Rattle.book.specs.Layered.{closed, closed_by, closing, held_back, lower}
use Rattle.book.specs.Loads.{admissible, load, load_below}
use Rattle.book.specs.Meaning.{Meaning, Road, Sound, horizon, no_road, road, segments}
use Rattle.book.specs.declared.legs.Leg.{Leg}
use Rattle.book.proofs.Layering.{admissible_closed, closing_known, closing_unknown, road_held, segments_held}
use Rattle.book.proofs.Windows.{load_unknown}

-- two meanings that differ in their segments alone are one where these are the same, number by number
same_roads : (m : Meaning) (roads others : List Road) → length roads ≡ length others
    → ((i : ℕ) → i < length roads → get_or roads i no_road ≡ get_or others i no_road)
    → ◌≡◌ {A = Meaning}
    (record {
      shown = record { horizon = m.shown.horizon; junctions = m.shown.junctions; roads = roads };
      standing = m.standing;
      bars = m.bars;
    })
    (record {
      shown = record { horizon = m.shown.horizon; junctions = m.shown.junctions; roads = others };
      standing = m.standing;
      bars = m.bars;
    })
same_roads m roads others long each =
    ap
    (λ rs. record {
      shown = record { horizon = m.shown.horizon; junctions = m.shown.junctions; roads = rs };
      standing = m.standing;
      bars = m.bars;
    })
    (ext_get_or no_road roads others long each)

abbrev with_count : Road → ℕ → Road
with_count r n = record { start = r.start; end = r.end; slots = r.slots; count = n }

-- nothing held back
pub held_none : (m : Meaning) → held_back 0 m ≡ m
held_none m =
    same_roads m (held_back 0 m).shown.roads m.shown.roads (segments_held 0 m)
    (λ i within.
    road_held 0 m i (omega (arith, segments_held 0 m))
    ∙ ap (with_count (road m i)) (let same : (road m i).count - 0 ≡ (road m i).count = omega arith in same))

-- two numbers held back are their sum, cut off at the largest critical count
pub held_twice : (first second both : ℕ) (m : Meaning) → Sound m → both ≡ min (first + second) most_count
    → held_back second (held_back first m) ≡ held_back both m
held_twice first second both m sound is =
    same_roads m (held_back second (held_back first m)).shown.roads (held_back both m).shown.roads
    (segments_held second (held_back first m) ∙ segments_held first m ∙ sym (segments_held both m))
    (λ i within.
    let known : i < segments m = omega (arith, segments_held second (held_back first m), segments_held first m) in
    let small = (sound.plan_fits.roads_fit i known).small_count in
    road_held second (held_back first m) i (omega (arith, segments_held first m))
    ∙ ap (lower second) (road_held first m i known)
    ∙ ap (with_count (road m i))
    (let same : (road m i).count - first - second ≡ (road m i).count - both = omega arith in same)
    ∙ sym (road_held both m i known))

pub load_held : (held : ℕ) (m : Meaning) (i t : ℕ) → load (held_back held m) i t ≡ load m i t
load_held held m i t =
    ⊎_elim
    (λ known. ap (λ r. load_below (horizon m) (m.standing i) r.slots t) (road_held held m i known))
    (λ past.
    load_unknown (held_back held m) i t (omega (arith, segments_held held m)) ∙ sym (load_unknown m i t past))
    (cases_lt i (segments m))

-- what closures bar does not depend on what is held back
closing_held : (held : ℕ) (ks : List Closure) (m : Meaning) (i e : ℕ)
    → closing ks (held_back held m).shown i e ≡ closing ks m.shown i e
closing_held held ks m i e =
    ⊎_elim
    (λ known.
    closing_known ks (held_back held m) i e (omega (arith, segments_held held m))
    ∙ ap (λ r. closed_by ks i r.slots e) (road_held held m i known)
    ∙ sym (closing_known ks m i e known))
    (λ past.
    closing_unknown ks (held_back held m) i e (omega (arith, segments_held held m))
    ∙ sym (closing_unknown ks m i e past))
    (cases_lt i (segments m))

held_closed : (held : ℕ) (ks : List Closure) (m : Meaning) → held_back held (closed ks m) ≡ closed ks (held_back held m)
held_closed held ks m =
    ap
    (λ (bars : ℕ → ℕ → Bool). record { shown = (held_back held m).shown; standing = m.standing; bars = bars })
    (fun_ext (λ i. fun_ext (λ e. ap (λ b. m.bars i e || b) (sym (closing_held held ks m i e)))))

pub admissible_held_closed : (held : ℕ) (ks : List Closure) (m : Meaning) (l : Leg)
    → admissible (held_back held (closed ks m)) l
    ≡ (admissible (held_back held m) l && not (closing ks m.shown l.segment l.entry))
admissible_held_closed held ks m l =
    ap (λ x. admissible x l) (held_closed held ks m)
    ∙ admissible_closed ks (held_back held m) l
    ∙ ap (λ b. admissible (held_back held m) l && not b) (closing_held held ks m l.segment l.entry)
