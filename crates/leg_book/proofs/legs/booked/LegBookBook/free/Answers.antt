use Rattle.std.proofs.Common.{◌≡◌, ℕ, ◌<◌, ◌≤◌, ◌≢◌, Some, length, get_or, refl, arith, rules}
use Rattle.plan.specs.Limits.{most_legs}
use Rattle.book.proofs.Calling.{frees_ok}
use Rattle.book.specs.ShownPlan.{shown_of}
use Rattle.leg_book.specs.LegBook.{legs_of}
use Rattle.leg_book.specs.Records.{no_record, part_used}
use Rattle.leg_book.proofs.Stores.{counts_less, found_stands, less_by_one, means_less, not_found, stays_legal}
use Rattle.leg_book.proofs.legs.booked.LegBookBook.free.Goals as goal

pub returns-in_err-place-clause-does : goal.returns-in_err-place-clause-does
returns-in_err-place-clause-does c =
    let b = c.args.self.now in
    let l = c.args.leg in
    let none : most_legs ≤ length b.records.now → (k : ℕ) → k < most_legs
    → (get_or (part_used b.records.now) k no_record).leg ≢ Some l = search rules in
    let gone = not_found (shown_of b.plan) b.records.now l.segment l.entry b.legal none in
    search rules

pub overflow_sub-self : goal.overflow_sub-self
overflow_sub-self c =
    let b = c.args.self.now in
    let s = shown_of b.plan in
    let l = c.args.leg in
    let memory = b.records.now in
    let k = c.in_ok-place.place in
    let below : k < most_legs = search rules in
    let enough : most_legs ≤ length memory = search rules in
    let is : (get_or (part_used memory) k no_record).leg ≡ Some l = search rules in
    let less = counts_less s memory enough k below l is (b.legal enough) in
    let counted = b.counted in
    omega (arith, less, counted)

pub invariant_of-self : goal.invariant_of-self
invariant_of-self c =
    let b = c.args.self.now in
    let s = shown_of b.plan in
    let l = c.args.leg in
    let memory = b.records.now in
    let k = c.in_ok-place.place in
    let below : k < most_legs = search rules in
    let enough : most_legs ≤ length memory = search rules in
    let is : (get_or (part_used memory) k no_record).leg ≡ Some l = search rules in
    let less = counts_less s memory enough k below l is (b.legal enough) in
    let counted = b.counted in
    let few = b.few in
    record {
      legal = λ _. stays_legal s memory enough k below no_record refl (b.legal enough);
      small = λ _ i e. omega (arith, less_by_one s memory enough k below l is i e, b.small enough i e);
      counted = omega (arith, less, counted);
      few = omega (arith, few);
    }

pub returns-clause-does : goal.returns-clause-does
returns-clause-does c =
    let b = c.args.self.now in
    let s = shown_of b.plan in
    let l = c.args.leg in
    let memory = b.records.now in
    let k = c.in_ok-place.place in
    let below : k < most_legs = search rules in
    let enough : most_legs ≤ length memory = search rules in
    let is : (get_or (part_used memory) k no_record).leg ≡ Some l = search rules in
    record {
      answer = frees_ok (legs_of b) l (found_stands s memory enough k below l is (b.legal enough));
      change = means_less s memory enough k below l is (b.legal enough);
    }
