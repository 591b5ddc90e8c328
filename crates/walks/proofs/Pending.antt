-- The segments that are yet to be relaxed.
use Rattle.std.proofs.Common.{◌≡◌, ℕ, ◌+◌, ◌<◌, ◌≤◌, Bool, true, false, List, ⊎_elim, arith}
use Rattle.std.proofs.lemmas.Bool.Decides.{nat_tests}
use Rattle.std.proofs.lemmas.Bool.{cases_eq}
use Rattle.book.specs.Meaning.{Meaning, segments}
use Rattle.walks.specs.Labels.{done}
use Rattle.walks.specs.Searching.{goes_out, outgoing, pending, pendings}
use Rattle.walks.specs.Walks.{from}
use Rattle.walks.proofs.Counting.{count_le, count_less}

module _ (m : Meaning) (settled : List Bool) (v k i : ℕ) where
  -- a segment that is not pending starts at a settled junction, and was passed if that is v
  pub not_pending_done : pending m settled v k i ≡ false → done settled (from m i) ≡ true
  not_pending_done free = grind (arith, nat_tests)

  pub not_pending_passed : pending m settled v k i ≡ false → from m i ≡ v → i < k
  not_pending_passed free starts = grind (arith, nat_tests)

  pub not_pending : done settled (from m i) ≡ true → (from m i ≡ v → i < k) → pending m settled v k i ≡ false
  not_pending now passed =
      ⊎_elim
      (λ starts. let below = passed starts in grind (arith, nat_tests))
      (λ apart. grind (arith, nat_tests))
      (cases_eq (from m i) v)

  out_pending : goes_out m v k i ≡ true → pending m settled v k i ≡ true
  out_pending out = grind (arith, nat_tests)

-- what was not relaxed before was pending then
pending_before : (before after : Bool) → (before ≡ false → after ≡ false) → after ≡ true → before ≡ true
pending_before before after stays pends = grind arith

-- no more segments are pending where what was relaxed stays so
pub pendings_le : (m : Meaning) (settled : List Bool) (v k : ℕ) (later : List Bool) (w l : ℕ)
    → ((i : ℕ) → i < segments m → pending m settled v k i ≡ false → pending m later w l i ≡ false)
    → pendings m later w l ≤ pendings m settled v k
pendings_le m settled v k later w l stays =
    count_le (segments m) (pending m later w l) (pending m settled v k)
    (λ i known. pending_before (pending m settled v k i) (pending m later w l i) (stays i known))

-- between two junctions it does not matter which one was settled last
pub not_pending_any : (m : Meaning) (settled : List Bool) (v w i : ℕ) → i < segments m
    → pending m settled v (segments m) i ≡ false → pending m settled w (segments m) i ≡ false
not_pending_any m settled v w i known free =
    not_pending m settled w (segments m) i (not_pending_done m settled v (segments m) i free) (λ _. known)

pub pendings_any : (m : Meaning) (settled : List Bool) (v w : ℕ)
    → pendings m settled w (segments m) ≤ pendings m settled v (segments m)
pendings_any m settled v w =
    pendings_le m settled v (segments m) settled w (segments m) (not_pending_any m settled v w)

out_here : (m : Meaning) (v k : ℕ) → from m k ≡ v → goes_out m v k k ≡ true
out_here m v k starts = grind (arith, nat_tests)

-- ---- one more segment is passed

module _ (m : Meaning) (settled : List Bool) (v k : ℕ) where
  passed : (i : ℕ) → pending m settled v k i ≡ false → pending m settled v (k + 1) i ≡ false
  passed i free =
      not_pending m settled v (k + 1) i (not_pending_done m settled v k i free)
      (λ starts. let below = not_pending_passed m settled v k i free starts in omega arith)

  -- the others were passed before
  pub passed_before : (i : ℕ) → pending m settled v (k + 1) i ≡ false → ((i ≡ k) × (from m i ≡ v) → ⊥)
      → pending m settled v k i ≡ false
  passed_before i free other =
      not_pending m settled v k i (not_pending_done m settled v (k + 1) i free)
      (λ starts.
      let below = not_pending_passed m settled v (k + 1) i free starts in
      ⊎_elim (λ same. absurd (other (same, starts))) (λ apart. omega arith) (cases_eq i k))

  pub pendings_passed : pendings m settled v (k + 1) ≤ pendings m settled v k
  pendings_passed = pendings_le m settled v k settled v (k + 1) (λ i known. passed i)

  -- where it starts at v, it is pending no more
  pub pendings_relaxed : k < segments m → from m k ≡ v → done settled v ≡ true
      → pendings m settled v (k + 1) < pendings m settled v k
  pendings_relaxed known starts now =
      count_less (segments m) k (pending m settled v (k + 1)) (pending m settled v k)
      (λ i i_known. pending_before (pending m settled v k i) (pending m settled v (k + 1) i) (passed i))
      known
      (not_pending m settled v (k + 1) k (rw starts now) (λ _. omega arith))
      (out_pending m settled v k k (out_here m v k starts))

module _ (m : Meaning) (v k : ℕ) where
  out_before : (i : ℕ) → i < segments m → goes_out m v (k + 1) i ≡ true → goes_out m v k i ≡ true
  out_before i known out = grind (arith, nat_tests)

  pub outgoing_passed : outgoing m v (k + 1) ≤ outgoing m v k
  outgoing_passed = count_le (segments m) (goes_out m v (k + 1)) (goes_out m v k) out_before

  pub outgoing_relaxed : k < segments m → from m k ≡ v → outgoing m v (k + 1) < outgoing m v k
  outgoing_relaxed known starts =
      count_less (segments m) k (goes_out m v (k + 1)) (goes_out m v k) out_before
      known
      (grind (arith, nat_tests))
      (out_here m v k starts)

-- every segment that starts at v is pending at first
pub outgoing_pending : (m : Meaning) (settled : List Bool) (v : ℕ) → outgoing m v 0 ≤ pendings m settled v 0
outgoing_pending m settled v =
    count_le (segments m) (goes_out m v 0) (pending m settled v 0) (λ i known. out_pending m settled v 0 i)
