-- The least label x is taken out of the queue q, of which p is left: its junction is settled already, or is now.
use Rattle.std.proofs.Common.{◌≡◌, ℕ, ◌<◌, ◌≤◌, Bool, true, false, ◌≢◌, List, ◌∷◌, length, set, sym, ap, ◌∙◌, subst, ⊎_elim, arith}
use Rattle.std.specs.List.Sorted.{IsPermutation}
use Rattle.std.specs.List.{ContainsAt as Has, AllByRecursion}
use Rattle.std.proofs.ByRecursion.{all-has, all_has_itself, All-weaker, all_shuffled}
use Rattle.std.proofs.lemmas.List.{get_or-set_other, get_or-set_same, length-set}
use Rattle.std.proofs.lemmas.Bool.{both_ways, cases_eq}
use Rattle.queue.specs.Queue.{Least}
use Rattle.book.specs.Meaning.{Meaning, segments}
use Rattle.walks.specs.Labels.{at, done, far, label, label_before}
use Rattle.walks.specs.Searching.{Ahead, Searching, Settling, pending, pendings}
use Rattle.walks.specs.Walks.{from}
use Rattle.queue_client.specs.declared.label.Label.{Label}
use Rattle.walks.proofs.Pending.{not_pending, not_pending_done, not_pending_passed, pendings_le}
use Rattle.walks.proofs.Queues.{least_slot, taken_keeps}

module _ {m : Meaning} {o t : ℕ} {best : List ℕ} {settled : List Bool} {q p : List Label} {d v : ℕ} {x : Label}
    (s : Searching m o t best settled q d v (segments m)) (taken : IsPermutation q (x ∷ p)) where
  was_ahead : Ahead m best d x × AllByRecursion (Ahead m best d) p
  was_ahead = all_shuffled (Ahead m best d) q (x ∷ p) taken s.ahead

  pub taken_within : x.junction < length settled
  taken_within = let known = was_ahead.0.known in let long = s.settled_long in omega arith

  -- its junction is settled already
  pub taken_settled : done settled x.junction ≡ true → Searching m o t best settled p d v (segments m)
  taken_settled before = record {
    best_long = s.best_long;
    settled_long = s.settled_long;
    slot_low = s.slot_low;
    origin = s.origin;
    reached = s.reached;
    behind = s.behind;
    waiting = λ w known unsettled near.
        ⊎_elim
        (λ is. absurd (both_ways (done settled w) unsettled
        (subst (λ (y : Label). done settled y.junction ≡ true) is before)))
        (λ still. still)
        (taken_keeps taken (label (at best w) w) (s.waiting w known unsettled near));
    ahead = was_ahead.1;
    relaxed = s.relaxed;
  }

  -- ---- its junction is settled now

  module _ (least : Least label_before x q) (unsettled : done settled x.junction ≡ false) where
    -- the label has the best slot of its junction
    taken_best : at best x.junction ≡ x.slot
    taken_best =
        let ahead = was_ahead.0 in
        let by = ahead.best_by in
        let near = ahead.not_far in
        let waits = s.waiting x.junction ahead.known unsettled (omega arith) in
        let best_label = label (at best x.junction) x.junction in
        omega (arith, all-has (λ y. x.slot ≤ y.slot) q best_label (least_slot least) waits)

    abbrev after : List Bool
    after = set settled x.junction true

    settled_here : done after x.junction ≡ true
    settled_here = get_or-set_same settled x.junction true false taken_within

    settled_other : (w : ℕ) → w ≢ x.junction → done after w ≡ done settled w
    settled_other w apart = get_or-set_other settled x.junction w true false apart

    -- what is relaxed stays so, and only that
    relaxed_stays : (i : ℕ) → i < segments m
        → pending m settled v (segments m) i ≡ false → pending m after x.junction 0 i ≡ false
    relaxed_stays i known free =
        let before = not_pending_done m settled v (segments m) i free in
        let apart : from m i ≡ x.junction → ⊥ =
        λ is. both_ways (done settled (from m i)) (rw is unsettled) before in
        not_pending m after x.junction 0 i (settled_other (from m i) apart ∙ before) (λ is. absurd (apart is))

    relaxed_before : (i : ℕ) → i < segments m
        → pending m after x.junction 0 i ≡ false → pending m settled v (segments m) i ≡ false
    relaxed_before i known free =
        let apart : from m i ≡ x.junction → ⊥ =
        λ is. let none = not_pending_passed m after x.junction 0 i free is in omega arith in
        let now = not_pending_done m after x.junction 0 i free in
        not_pending m settled v (segments m) i (sym (settled_other (from m i) apart) ∙ now) (λ _. known)

    pub pendings_taken : pendings m after x.junction 0 ≤ pendings m settled v (segments m)
    pendings_taken = pendings_le m settled v (segments m) after x.junction 0 relaxed_stays

    still_waiting : (w : ℕ) → w < m.shown.junctions → done after w ≡ false → at best w < far
        → Has p (label (at best w) w)
    still_waiting w known later near =
        let apart : w ≡ x.junction → ⊥ = λ is. both_ways (done after w) later (rw is settled_here) in
        ⊎_elim
        (λ is. absurd (apart (sym (ap (λ (y : Label). y.junction) is))))
        (λ still. still)
        (taken_keeps taken (label (at best w) w) (s.waiting w known (sym (settled_other w apart) ∙ later) near))

    now_behind : (w : ℕ) → w < m.shown.junctions → done after w ≡ true → at best w ≤ x.slot
    now_behind w known now =
        let later = was_ahead.0.later in
        ⊎_elim
        (λ (is : w ≡ x.junction). let here = ap (at best) is in omega (arith, taken_best))
        (λ apart. omega (arith, s.behind w known (sym (settled_other w apart) ∙ now)))
        (cases_eq w x.junction)

    now_ahead : AllByRecursion (Ahead m best x.slot) p
    now_ahead =
        let first = (all_shuffled (λ y. x.slot ≤ y.slot) q (x ∷ p) taken (least_slot least)).1 in
        All-weaker (Has p) (Ahead m best x.slot)
        (λ y has.
        let ahead = all-has (Ahead m best d) p y was_ahead.1 has in
        record {
          later = all-has (λ z. x.slot ≤ z.slot) p y first has;
          not_far = ahead.not_far;
          known = ahead.known;
          best_by = ahead.best_by;
        })
        p (all_has_itself p)

    pub taken_settles : Settling m o t best (set settled x.junction true) p x.slot x.junction 0
    taken_settles = record {
      searching = record {
        best_long = s.best_long;
        settled_long = let long = s.settled_long in omega (arith, length-set settled x.junction true);
        slot_low = was_ahead.0.not_far;
        origin = s.origin;
        reached = s.reached;
        behind = now_behind;
        waiting = still_waiting;
        ahead = now_ahead;
        relaxed = λ i known free. s.relaxed i known (relaxed_before i known free);
      };
      now = settled_here;
      here = taken_best;
    }
