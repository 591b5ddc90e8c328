use Rattle.std.proofs.Common.{◌≡◌, ℕ, ◌<◌, ◌≤◌, false, ltb, ◌≢◌, None, length, get_or, sym, arith, length-set, rules}
use Rattle.std.proofs.lemmas.Bool.{le-ltb, leb-true}
use Rattle.plan.specs.Limits.{most_count, most_legs}
use Rattle.book.proofs.Bottoms.{bottom_at, shown_fits}
use Rattle.book.proofs.Calling.{admitted_kept, few_stand, reserves_ok}
use Rattle.book.specs.Meaning.{total}
use Rattle.book.specs.ShownPlan.{shown_of}
use Rattle.leg_book.specs.LegBook.{legs_of}
use Rattle.leg_book.specs.Records.{count_at, no_record, part_used, record_of, suffices}
use Rattle.leg_book.proofs.Stores.{counts_more, full, kept_in_plan, means_more, more_by_one, not_full, stays_legal, stays_small}
use Rattle.leg_book.proofs.legs.booked.LegBookBook.reserve.Goals as goal

pub returns-in_err-place-clause-does : goal.returns-in_err-place-clause-does
returns-in_err-place-clause-does c =
    let b = c.args.self.now in
    let s = shown_of b.plan in
    let at = admitted_kept s (suffices b.records.now) (count_at (part_used b.records.now)) c.args.leg (shown_fits b.plan)
    (sym c.if-not-admissible.ensures) in
    let enough = leb-true most_legs (length b.records.now) at.keeps in
    let none : most_legs ≤ length b.records.now → (k : ℕ) → k < most_legs
    → (get_or (part_used b.records.now) k no_record).leg ≢ None = search rules in
    let all = full s b.records.now enough (b.legal enough) (none enough) in
    let no_room : ltb (total (legs_of b)) most_legs ≡ false = le-ltb _ _ (omega (arith, all)) in
    search rules

pub invariant_of-self : goal.invariant_of-self
invariant_of-self c =
    let b = c.args.self.now in
    let s = shown_of b.plan in
    let l = c.args.leg in
    let memory = b.records.now in
    let k = c.in_ok-place.place in
    let below : k < most_legs = search rules in
    let enough : most_legs ≤ length memory = search rules in
    let unused : (get_or (part_used memory) k no_record).leg ≡ None = search rules in
    let admitted = sym c.if-not-admissible.ensures in
    let at = admitted_kept s (suffices memory) (count_at (part_used memory)) l (shown_fits b.plan) admitted in
    let few : count_at (part_used memory) l.segment l.entry < most_count =
    omega (
      arith,
      few_stand (legs_of b) l (shown_fits b.plan) admitted,
      bottom_at s (suffices memory) (count_at (part_used memory)) l.segment l.entry at,
    ) in
    let more = counts_more s memory _ l (length-set memory k (record_of l)) (more_by_one s memory enough k below l unused) at in
    let room = not_full s memory enough k below unused (b.legal enough) in
    let counted = b.counted in
    record {
      legal = λ _. stays_legal s memory enough k below (record_of l) (kept_in_plan s memory l at) (b.legal enough);
      small = λ _. stays_small s memory enough k below l unused few (b.small enough);
      counted = omega (arith, more, counted);
      few = omega (arith, room, counted);
    }

pub returns-clause-does : goal.returns-clause-does
returns-clause-does c =
    let b = c.args.self.now in
    let s = shown_of b.plan in
    let l = c.args.leg in
    let memory = b.records.now in
    let k = c.in_ok-place.place in
    let below : k < most_legs = search rules in
    let enough : most_legs ≤ length memory = search rules in
    let unused : (get_or (part_used memory) k no_record).leg ≡ None = search rules in
    let admitted = sym c.if-not-admissible.ensures in
    let at = admitted_kept s (suffices memory) (count_at (part_used memory)) l (shown_fits b.plan) admitted in
    record {
      answer = reserves_ok (legs_of b) l admitted (not_full s memory enough k below unused (b.legal enough));
      change = means_more s memory _ l (length-set memory k (record_of l))
          (more_by_one s memory enough k below l unused) at;
    }
