-- The main loop of a search: the least label is taken out until none waits.
use Rattle.std.proofs.Common.{◌≡◌, ℕ, ◌+◌, ◌<◌, ◌≤◌, Bool, true, false, ◌≢◌, List, [], ◌∷◌, length, set, replicate, sym, ap, ◌∙◌, subst, ap₂, inl, inr, ⊎_elim, arith}
use Rattle.std.specs.List.Sorted.{IsPermutation}
use Rattle.std.specs.List.{ContainsAt as Has, AllByRecursion}
use Rattle.std.proofs.lemmas.List.{get_or_past, get_or-replicate, get_or-set_other, get_or-set_same, length-replicate, length-set, nil_from_length}
use Rattle.std.proofs.lemmas.List.Sorted.{length_permutation}
use Rattle.std.proofs.ByRecursion.{all_shuffled}
use Rattle.std.proofs.lemmas.Bool.{both_ways, cases_eq, cases_lt}
use Rattle.queue.specs.Queue.{Least, held, room}
use Rattle.queue.specs.declared.Queue.{Queue}
use Rattle.plan.specs.Limits.{most_junctions}
use Rattle.book.specs.Meaning.{Meaning, Sound, horizon, segments}
use Rattle.walks.specs.Labels.{at, done, far, label, label_before}
use Rattle.walks.specs.Queues.{Keeps}
use Rattle.walks.specs.Searching.{
  Ahead,
  Goes,
  Searching,
  Settling,
  Solved,
  Solves,
  Waits,
  outgoing,
  pending,
  pendings,
  remaining,
}
use Rattle.walks.specs.Walks.{from}
use Rattle.queue_client.specs.declared.label.Label.{Label}
use Rattle.walks.proofs.Counting.{count_within}
use Rattle.walks.proofs.Pending.{not_pending_any, not_pending_done, outgoing_pending, pendings_any}
use Rattle.walks.proofs.Queues.{keeps_none, keeps_on, put_in}
use Rattle.walks.proofs.Solving.{solved}
use Rattle.walks.proofs.Taking.{pendings_taken, taken_settled, taken_settles, taken_within}

-- ---- at first the origin's label waits, and nothing is settled

module _ (m : Meaning) (sound : Sound m) (o t : ℕ) (q : List Label)
    (known : o < m.shown.junctions) (early : t < horizon m) (put : IsPermutation (label t o ∷ []) q) where
  abbrev table : List ℕ
  table = set (replicate most_junctions far) o t

  abbrev unsettled : List Bool
  unsettled = replicate most_junctions false

  origin_within : o < most_junctions
  origin_within = let few = sound.plan_fits.few_junctions in omega arith

  at_origin : at table o ≡ t
  at_origin =
      get_or-set_same (replicate most_junctions far) o t 0
      (omega (arith, origin_within, length-replicate most_junctions far))

  at_other : (w : ℕ) → w < m.shown.junctions → w ≢ o → at table w ≡ far
  at_other w w_known apart =
      let few = sound.plan_fits.few_junctions in
      get_or-set_other (replicate most_junctions far) o w t 0 apart ∙ get_or-replicate most_junctions w far 0 (omega arith)

  none_done : (w : ℕ) → done unsettled w ≡ false
  none_done w =
      ⊎_elim
      (λ within. get_or-replicate most_junctions w false false within)
      (λ past. get_or_past unsettled w false (omega (arith, length-replicate most_junctions false)))
      (cases_lt w most_junctions)

  first_waits : (w : ℕ) → w < m.shown.junctions → at table w < far → Has q (label (at table w) w)
  first_waits w w_known near =
      ⊎_elim
      (λ (is : w ≡ o). subst (Has q) (sym (ap₂ label (ap (at table) is ∙ at_origin) is)) (put_in put))
      (λ apart. absurd (omega (arith, at_other w w_known apart)))
      (cases_eq w o)

  first_ahead : AllByRecursion (Ahead m table 0) q
  first_ahead =
      let low = sound.plan_fits.few_slots in
      all_shuffled (Ahead m table 0) (label t o ∷ []) q put
      (record { later = omega arith; not_far = omega arith; known = known; best_by = omega (arith, at_origin) }, tt)

  first_searching : Searching m o t table unsettled q 0 0 (segments m)
  first_searching =
      let few = sound.plan_fits.few_junctions in
      record {
        best_long =
            omega (arith, length-set (replicate most_junctions far) o t, length-replicate most_junctions far);
        settled_long = omega (arith, length-replicate most_junctions false);
        slot_low = omega arith;
        origin = omega (arith, at_origin);
        reached = λ w w_known.
            ⊎_elim
            (λ (is : w ≡ o). inr ([], (sym is, sym (ap (at table) is ∙ at_origin))))
            (λ apart. inl (at_other w w_known apart))
            (cases_eq w o);
        behind = λ w w_known is. absurd (both_ways _ (none_done w) is);
        waiting = λ w w_known is near. first_waits w w_known near;
        ahead = first_ahead;
        relaxed = λ i i_known free.
            absurd (both_ways _ (none_done (from m i)) (not_pending_done m unsettled 0 (segments m) i free));
      }

  pub waits_first : (size : ℕ) → segments m + 1 ≤ size
      → Waits m o t (set (replicate most_junctions far) o t) (replicate most_junctions false) q size
  waits_first size enough = record {
    slot = 0;
    searching = first_searching;
    fits = omega (
      arith,
      length_permutation _ _ put,
      count_within (segments m) (pending m unsettled 0 (segments m)),
    );
  }

-- ---- the label x is taken out of the queue q, of which p is left

pub remaining_taken : (m : Meaning) (settled : List Bool) {q p : List Label} {x : Label}
    → IsPermutation q (x ∷ p) → remaining m settled p < remaining m settled q
remaining_taken m settled taken = omega (arith, length_permutation _ _ taken)

any_settled : (m : Meaning) (o t : ℕ) (best : List ℕ) (settled : List Bool) (q : List Label) (d v w : ℕ)
    → Searching m o t best settled q d v (segments m) → Searching m o t best settled q d w (segments m)
any_settled m o t best settled q d v w s = record {
  best_long = s.best_long;
  settled_long = s.settled_long;
  slot_low = s.slot_low;
  origin = s.origin;
  reached = s.reached;
  behind = s.behind;
  waiting = s.waiting;
  ahead = s.ahead;
  relaxed = λ i known free. s.relaxed i known (not_pending_any m settled w v i known free);
}

module _ {m : Meaning} {o t : ℕ} {best : List ℕ} {settled : List Bool} {q p : List Label} {size : ℕ} {x : Label}
    (waits : Waits m o t best settled q size) (taken : IsPermutation q (x ∷ p)) where
  pub waits_within : x.junction < length settled
  waits_within = taken_within waits.searching taken

  -- its junction is settled already
  waits_past : done settled x.junction ≡ true → Waits m o t best settled p size
  waits_past is = record {
    slot = waits.slot;
    searching = taken_settled waits.searching taken is;
    fits = let fits = waits.fits in omega (arith, remaining_taken m settled taken);
  }

  -- its junction is settled now
  module _ (least : Least label_before x q) (unsettled : done settled x.junction ≡ false) where
    abbrev more : List Bool
    more = set settled x.junction true

    fewer : length p + pendings m more x.junction 0 < remaining m settled q
    fewer = omega (arith, pendings_taken waits.searching taken least unsettled, length_permutation _ _ taken)

    -- the queue has room for a label of each segment that starts there
    pub waits_room : length p + outgoing m x.junction 0 ≤ size
    waits_room = let fits = waits.fits in omega (arith, fewer, outgoing_pending m more x.junction)

    module _ (after : List ℕ) (last : List Label) (goes : Goes m x.junction 0 best p (segments m) after last) where
      gone : Settling m o t after more last x.slot x.junction (segments m)
          × (length last + pendings m more x.junction (segments m) ≤ length p + pendings m more x.junction 0)
      gone = goes o t x.slot more (taken_settles waits.searching taken least unsettled)

      pub remaining_settled : remaining m (set settled x.junction true) last < remaining m settled q
      remaining_settled =
          let none_more = gone.1 in
          omega (arith, fewer, pendings_any m more x.junction 0)

      waits_settled : Waits m o t after (set settled x.junction true) last size
      waits_settled = record {
        slot = x.slot;
        searching = any_settled m o t after more last x.slot x.junction 0 gone.0.searching;
        fits = let fits = waits.fits in omega (arith, remaining_settled);
      }

-- ---- no label waits

waits_solved : {m : Meaning} {o t : ℕ} {best : List ℕ} {settled : List Bool} {q : List Label} {size : ℕ}
    → Sound m → Waits m o t best settled q size → length q ≡ 0 → o < m.shown.junctions → t < horizon m
    → Solved m o t best
waits_solved {q = q} sound waits empty known early =
    let none : q ≡ [] = nil_from_length q empty in
    solved sound (rw none at waits.searching) known early

waits_in : {m : Meaning} {o t : ℕ} {best : List ℕ} {settled : List Bool} {q : List Label} {size same : ℕ}
    → same ≡ size → Waits m o t best settled q size → Waits m o t best settled q same
waits_in is waits =
    record { slot = waits.slot; searching = waits.searching; fits = let fits = waits.fits in omega arith }

-- ---- the loop as it runs

-- every search that stood at the tables `first` and `before` and the queue `begun` stands at best, settled and queue
pub record Follows (m : Meaning) (first : List ℕ) (before : List Bool) (begun : Queue Label)
    (best : List ℕ) (settled : List Bool) (queue : Queue Label) : Type 0 where
  pub keeps : Keeps begun queue
  pub waits : (o t : ℕ) → Waits m o t first before (held begun) (room begun)
      → Waits m o t best settled (held queue) (room queue)

pub follows_begins : (m : Meaning) (best : List ℕ) (settled : List Bool) (queue : Queue Label)
    → Follows m best settled queue best settled queue
follows_begins m best settled queue = record { keeps = keeps_none queue; waits = λ o t waits. waits }

module _ {m : Meaning} {first : List ℕ} {before : List Bool} {begun : Queue Label}
    {best : List ℕ} {settled : List Bool} {queue : Queue Label}
    (follows : Follows m first before begun best settled queue) where
  pub follows_past : {rest : Queue Label} {x : Label}
      → Keeps queue rest → IsPermutation (held queue) (x ∷ held rest) → done settled x.junction ≡ true
      → Follows m first before begun best settled rest
  follows_past keeps taken is = record {
    keeps = keeps_on follows.keeps keeps;
    waits = λ o t waits. waits_in keeps.same_room (waits_past (follows.waits o t waits) taken is);
  }

  pub follows_settled : {rest last : Queue Label} {x : Label}
      → Keeps queue rest → IsPermutation (held queue) (x ∷ held rest)
      → Least label_before x (held queue) → done settled x.junction ≡ false
      → (after : List ℕ) → Keeps rest last → Goes m x.junction 0 best (held rest) (segments m) after (held last)
      → Follows m first before begun after (set settled x.junction true) last
  follows_settled {last = last} keeps taken least unsettled after keeps_last goes = record {
    keeps = keeps_on follows.keeps (keeps_on keeps keeps_last);
    waits = λ o t waits.
        waits_in (keeps_on keeps keeps_last).same_room
        (waits_settled (follows.waits o t waits) taken least unsettled after (held last) goes);
  }

  pub follows_solves : Sound m → length (held queue) ≡ 0 → Solves m first before (held begun) (room begun) best
  follows_solves sound empty o t known early waits =
      waits_solved sound (follows.waits o t waits) empty known early
