use Rattle.std.proofs.Common.{◌≡◌, ℕ, ◌<◌, ◌≤◌, ◌≢◌, List, Some, None, Option, length, get_or, arith, rules}
use Rattle.std.proofs.lemmas.Grind.{common_steps}
use Rattle.std.proofs.lemmas.Iterator.{IsFirst-from_position, YieldsList-from_slice}
use Rattle.std.proofs.lemmas.List.{length-take}
use Rattle.std.specs.List.{AllWithin, HoldsAt}
use Rattle.std.specs.Option.{MatchOption}
use Rattle.plan.specs.Limits.{most_legs}
use Rattle.book.specs.declared.legs.Leg.{Leg}
use Rattle.leg_book.specs.Records.{no_record, part_used}
use Rattle.leg_book.specs.declared.leg_record.LegRecord.{LegRecord}
use Rattle.leg_book.proofs.legs.LegBook.find.Goals as goal

found : (memory : List LegRecord) (leg : Option Leg) (r : Option ℕ) → most_legs ≤ length memory
    → MatchOption r (AllWithin (λ x. x.leg ≢ leg) (part_used memory) 0 (length (part_used memory)))
    (λ k. (k < length (part_used memory)) × HoldsAt (λ x. x.leg ≡ leg) (part_used memory) k
    × AllWithin (λ x. x.leg ≢ leg) (part_used memory) 0 k)
    → MatchOption r (most_legs ≤ length memory → (k : ℕ) → k < most_legs → (get_or (part_used memory) k no_record).leg ≢ leg)
    (λ k. (k < most_legs) × (most_legs ≤ length memory)
    × ((get_or (part_used memory) k no_record).leg ≡ leg))
found memory leg None enough none =
    λ _ k below.
    none k no_record (omega arith) (omega (arith, length-take most_legs memory, enough, below))
found memory leg (Some k) enough (within, here, before) =
    (omega (arith, within, length-take most_legs memory), enough, here no_record)

pub returns : goal.returns
returns c =
    let memory = c.args.self.now.records.now in
    let part = c.in_ok-part.ensures in
    found memory c.args.leg c.position.result part.1
    (IsFirst-from_position _ _ _ (λ x. x.leg ≡ c.args.leg) (λ x. x.leg ≢ c.args.leg) c.position.ensures.ran
    (YieldsList-from_slice (part_used memory) cc)
    (λ x q k. search rules) (λ x q k. (search rules, λ same. search (rules, common_steps))))
