-- Adding the records of a checked section to a plan, one after the other: none is refused.
use Rattle.std.proofs.Common.{◌≡◌, ◌+◌, ◌≤◌, true, ltb, List, [], ◌∷◌, length, None, sym, ap, ◌∙◌, subst, arith}
use Rattle.std.proofs.lemmas.List.{append_assoc, length-append}
use Rattle.std.proofs.lemmas.Bool.{and_parts, cond-true, lt-ltb}
use Rattle.plan.specs.Content.{Content, closure_addition, segment_addition, with_closure, with_segment}
use Rattle.plan.specs.Limits.{most_closures, most_segments}
use Rattle.plan.specs.Ranges.{closure_rules, closures_fit, segment_rules, segments_fit}
use Rattle.plan.specs.Rules.{every, first_broken, keeps}
use Rattle.plan.specs.declared.parts.Closure.{Closure}
use Rattle.plan.specs.declared.parts.Segment.{Segment}
use Rattle.plan.proofs.Ruling.{none_broken}
use Rattle.sheet.specs.Reads.{with_closures, with_segments}

-- the segments left fit the plan and have room, and make of it what all of them make of the plan at the start
pub record SegmentsLeft (start : Content) (whole : List Segment) (c : Content) (left : List Segment) : Type 0 where
  pub fit : segments_fit c.settings left ≡ true
  pub room : length c.segments + length left ≤ most_segments
  pub same : with_segments c left ≡ with_segments start whole

module _ (start : Content) (whole : List Segment) (c : Content) (g : Segment) (left : List Segment)
    (all : SegmentsLeft start whole c (g ∷ left)) where
  segment_parts : (keeps (segment_rules c.settings g) ≡ true) × (segments_fit c.settings left ≡ true)
  unfolding segments_fit
  segment_parts =
      and_parts (keeps (segment_rules c.settings g)) (every (λ h. keeps (segment_rules c.settings h)) left) all.fit

  pub segment_taken : first_broken (segment_addition c g) ≡ None
  segment_taken =
      let more = all.room in
      cond-true (ltb (length c.segments) most_segments) _ _ (lt-ltb (length c.segments) most_segments (omega arith))
      ∙ none_broken (segment_rules c.settings g) segment_parts.0

  pub segments_left : (after : Content) → after ≡ with_segment c g → SegmentsLeft start whole after left
  segments_left after added =
      let more = all.room in
      let longer : length after.segments ≡ length c.segments + 1 =
      ap (λ d. length d.segments) added ∙ length-append c.segments (g ∷ []) in
      record {
        fit = subst (λ s. segments_fit s left ≡ true) (sym (ap (λ d. d.settings) added)) segment_parts.1;
        room = omega arith;
        same =
            ap (λ d. with_segments d left) added
            ∙ ap (λ gs. record { settings = c.settings; segments = gs; closures = c.closures })
            (append_assoc c.segments (g ∷ []) left)
            ∙ all.same;
      }

-- the same of closures
pub record ClosuresLeft (start : Content) (whole : List Closure) (c : Content) (left : List Closure) : Type 0 where
  pub fit : closures_fit c.settings (length c.segments) left ≡ true
  pub room : length c.closures + length left ≤ most_closures
  pub same : with_closures c left ≡ with_closures start whole

module _ (start : Content) (whole : List Closure) (c : Content) (k : Closure) (left : List Closure)
    (all : ClosuresLeft start whole c (k ∷ left)) where
  closure_parts : (keeps (closure_rules c.settings (length c.segments) k) ≡ true)
      × (closures_fit c.settings (length c.segments) left ≡ true)
  unfolding closures_fit
  closure_parts =
      let rules = λ (h : Closure). keeps (closure_rules c.settings (length c.segments) h) in
      and_parts (rules k) (every rules left) all.fit

  pub closure_taken : first_broken (closure_addition c k) ≡ None
  closure_taken =
      let more = all.room in
      cond-true (ltb (length c.closures) most_closures) _ _ (lt-ltb (length c.closures) most_closures (omega arith))
      ∙ none_broken (closure_rules c.settings (length c.segments) k) closure_parts.0

  pub closures_left : (after : Content) → after ≡ with_closure c k → ClosuresLeft start whole after left
  closures_left after added =
      let more = all.room in
      let longer : length after.closures ≡ length c.closures + 1 =
      ap (λ d. length d.closures) added ∙ length-append c.closures (k ∷ []) in
      record {
        fit =
            subst (λ (d : Content). closures_fit d.settings (length d.segments) left ≡ true) (sym added) closure_parts.1;
        room = omega arith;
        same =
            ap (λ d. with_closures d left) added
            ∙ ap (λ ks. record { settings = c.settings; segments = c.segments; closures = ks })
            (append_assoc c.closures (k ∷ []) left)
            ∙ all.same;
      }
