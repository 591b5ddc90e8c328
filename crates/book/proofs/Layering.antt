-- What the layers keep of the book below: it stays sound, and its legs count the same.
use Rattle.std.proofs.Common.{◌≡◌, ℕ, ◌+◌, ◌<◌, ◌≤◌, Bool, false, not, ◌&&◌, ◌||◌, ltb, leb, List, sym, refl, ap, subst, arith}
use Rattle.std.proofs.lemmas.List.{get_or-map, length-map}
use Rattle.plan.specs.declared.parts.Closure.{Closure}
use Rattle.std.proofs.lemmas.Bool.{and_left, le-ltb, lt-ltb}
use Rattle.book.specs.Layered.{closed, closed_by, closing, held_back, lower}
use Rattle.book.specs.Loads.{admissible, has_room}
use Rattle.book.specs.Meaning.{Meaning, RoadFits, Sound, horizon, no_road, road, segments, total}
use Rattle.book.specs.Below.{sum_below}
use Rattle.book.specs.declared.legs.Leg.{Leg}

-- ---- closures

pub total_closed : (ks : List Closure) (m : Meaning) → total (closed ks m) ≡ total m
unfolding total
total_closed ks m = refl

pub closed_sound : (ks : List Closure) (m : Meaning) → Sound m → Sound (closed ks m)
unfolding total
closed_sound ks m sound =
    record {
      plan_fits = sound.plan_fits;
      known_segments = sound.known_segments;
      known_entries = sound.known_entries;
      few_legs = sound.few_legs;
    }

-- a leg is admissible over closures where it is below them and is not closed
pub admissible_closed : (ks : List Closure) (m : Meaning) (l : Leg)
    → admissible (closed ks m) l ≡ (admissible m l && not (closing ks m.shown l.segment l.entry))
unfolding admissible has_room
admissible_closed ks m l =
    ands
    (ltb l.segment (segments m)) (leb (l.entry + (road m l.segment).slots) (horizon m))
    (m.bars l.segment l.entry) (closing ks m.shown l.segment l.entry) (has_room m l)
  where
    ands : (known within barred shut room : Bool)
        → (known && (within && (not (barred || shut) && room))) ≡ ((known && (within && (not barred && room))) && not shut)
    ands known within barred shut room = grind arith

-- ---- held back

pub segments_held : (held : ℕ) (m : Meaning) → segments (held_back held m) ≡ segments m
segments_held held m = length-map m.shown.roads (lower held)

pub total_held : (held : ℕ) (m : Meaning) → total (held_back held m) ≡ total m
unfolding total
total_held held m = ap (λ n. sum_below n (λ i. sum_below (horizon m) (m.standing i))) (segments_held held m)

pub road_held : (held : ℕ) (m : Meaning) (i : ℕ) → i < segments m → road (held_back held m) i ≡ lower held (road m i)
road_held held m i known = get_or-map (lower held) m.shown.roads i no_road no_road known

pub held_sound : (held : ℕ) (m : Meaning) → Sound m → Sound (held_back held m)
held_sound held m sound =
    let same = segments_held held m in
    let fits = sound.plan_fits in
    record {
      plan_fits = record {
        some_slot = fits.some_slot;
        few_slots = fits.few_slots;
        two_junctions = fits.two_junctions;
        few_junctions = fits.few_junctions;
        few_segments = let few = fits.few_segments in omega (arith, same, few);
        roads_fit = λ i known.
            let below : i < segments m = omega (arith, same, known) in
            let r = fits.roads_fit i below in
            let small = r.small_count in
            subst (RoadFits m.shown.junctions) (sym (road_held held m i below)) (record {
              start_known = r.start_known;
              end_known = r.end_known;
              no_loop = r.no_loop;
              takes_a_slot = r.takes_a_slot;
              few_slots = r.few_slots;
              small_count = omega arith;
            });
      };
      known_segments = λ i e past. sound.known_segments i e (omega (arith, same, past));
      known_entries = sound.known_entries;
      few_legs = let few = sound.few_legs in omega (arith, total_held held m, few);
    }

-- ---- what closures bar

pub closing_unknown : (ks : List Closure) (m : Meaning) (i e : ℕ) → segments m ≤ i → closing ks m.shown i e ≡ false
unfolding closing
closing_unknown ks m i e past = and_left (ltb i (segments m)) _ (le-ltb i (segments m) past)

pub closing_known : (ks : List Closure) (m : Meaning) (i e : ℕ) → i < segments m
    → closing ks m.shown i e ≡ closed_by ks i (road m i).slots e
unfolding closing
closing_known ks m i e known =
    ap (λ b. b && closed_by ks i (road m i).slots e) (lt-ltb i (segments m) known)
