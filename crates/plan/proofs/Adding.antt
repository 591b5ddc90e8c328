-- What an addition keeps of a plan's ranges.
use Rattle.std.proofs.Common.{◌≡◌, ℕ, ◌<◌, ◌≤◌, Bool, true, cond, ◌&&◌, ltb, leb, List, [], ◌∷◌, ◌++◌, Some, None, refl, arith}
use Rattle.std.proofs.lemmas.Bool.{and_from, and_parts, leb-true, lt-ltb, ltb-true}
use Rattle.plan.specs.declared.parts.Closure.{Closure}
use Rattle.plan.specs.declared.parts.Segment.{Segment}
use Rattle.plan.specs.declared.parts.Settings.{Settings}
use Rattle.std.specs.List.{slice_get}
use Rattle.plan.specs.Limits.{most_travel}
use Rattle.plan.specs.Ranges.{closure_rules, closures_fit, segment_rules, segments_fit}
use Rattle.plan.specs.Rules.{first_broken, keeps}
use Rattle.plan.specs.Travel.{travel}
use Rattle.plan.proofs.Ruling.{all_kept, every_added, every_nth, every_weaker}

pub segments_fit_added : (s : Settings) (gs : List Segment) (g : Segment) (added : Bool) (after : List Segment)
    → after ≡ cond added (gs ++ g ∷ []) gs → segments_fit s gs ≡ true
    → (added ≡ true → first_broken (segment_rules s g) ≡ None) → segments_fit s after ≡ true
unfolding segments_fit
segments_fit_added s gs g added after grown fit none =
    every_added (λ h. keeps (segment_rules s h)) gs g added after grown fit (λ ok. all_kept (segment_rules s g) (none ok))

pub closures_fit_added : (s : Settings) (n : ℕ) (ks : List Closure) (k : Closure) (added : Bool) (after : List Closure)
    → after ≡ cond added (ks ++ k ∷ []) ks → closures_fit s n ks ≡ true
    → (added ≡ true → first_broken (closure_rules s n k) ≡ None) → closures_fit s n after ≡ true
unfolding closures_fit
closures_fit_added s n ks k added after grown fit none =
    every_added (λ h. keeps (closure_rules s n h)) ks k added after grown fit (λ ok. all_kept (closure_rules s n k) (none ok))

-- a closure that fits still fits among more segments
closure_fits_among_more : (s : Settings) (m n : ℕ) → m ≤ n → (k : Closure)
    → keeps (closure_rules s m k) ≡ true → keeps (closure_rules s n k) ≡ true
unfolding closure_rules
closure_fits_among_more s m n more k fit =
    let rest = ltb k.first k.end && leb k.end s.horizon in
    let whole = (and_parts (ltb k.segment m && rest) true fit).0 in
    let parts = and_parts (ltb k.segment m) rest whole in
    let known : k.segment < n = omega (arith, ltb-true k.segment m parts.0) in
    and_from _ true (and_from (ltb k.segment n) rest (lt-ltb _ _ known) parts.1) refl

pub closures_fit_among_more : (s : Settings) (m n : ℕ) → m ≤ n → (ks : List Closure)
    → closures_fit s m ks ≡ true → closures_fit s n ks ≡ true
unfolding closures_fit
closures_fit_among_more s m n more ks fit =
    every_weaker (λ k. keeps (closure_rules s m k)) (λ k. keeps (closure_rules s n k))
    (closure_fits_among_more s m n more) ks fit

pub travel_at_most : (s : Settings) (g : Segment) → keeps (segment_rules s g) ≡ true → travel s g ≤ most_travel
unfolding segment_rules
travel_at_most s g fit =
    let short = (and_parts _ (leb (travel s g) most_travel && true) fit).1 in
    leb-true (travel s g) most_travel (and_parts (leb (travel s g) most_travel) true short).0

-- a segment of a plan takes at most the slots that a plan allows
pub travel_in_plan : (s : Settings) (gs : List Segment) (i : ℕ) (g : Segment)
    → segments_fit s gs ≡ true → slice_get gs i ≡ Some g → travel s g ≤ most_travel
unfolding segments_fit
travel_in_plan s gs i g fit at = travel_at_most s g (every_nth (λ h. keeps (segment_rules s h)) gs i g fit at)
