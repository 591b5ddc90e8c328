-- What is in a queue once a label was put in or taken out.
use Rattle.std.proofs.Common.{◌≡◌, ◌≤◌, false, ◌⊎◌, List, [], ◌∷◌, refl, ◌∙◌, inl, inr, ⊎_elim, arith}
use Rattle.std.specs.List.Sorted.{IsPermutation}
use Rattle.std.specs.List.{ContainsAt as Has, AllByRecursion}
use Rattle.std.proofs.ByRecursion.{All-weaker, has_append_cases, has_append_right, has_get_or, has_push_cases, has_shuffled}
use Rattle.std.proofs.lemmas.Bool.Decides.{nat_tests}
use Rattle.queue.specs.Queue.{Least}
use Rattle.queue.specs.declared.Queue.{Queue}
use Rattle.walks.specs.Labels.{label_before}
use Rattle.walks.specs.Queues.{Keeps}
use Rattle.queue_client.specs.declared.label.Label.{Label}

-- ---- x was put in

module _ {q p : List Label} {x : Label} (put : IsPermutation (x ∷ q) p) where
  pub put_in : Has p x
  put_in = has_shuffled (x ∷ q) p x put (has_get_or (x ∷ q) 0 x (omega arith))

  pub put_keeps : (y : Label) → Has q y → Has p y
  put_keeps y has = has_shuffled (x ∷ q) p y put (has_append_right (x ∷ []) q y has)

-- ---- x was taken out

pub taken_keeps : {q p : List Label} {x : Label} → IsPermutation q (x ∷ p) → (y : Label) → Has q y → (x ≡ y) ⊎ Has p y
taken_keeps {q} {p} {x} taken y has =
    ⊎_elim
    (λ first. ⊎_elim (λ none. let within = none.1 in absurd (omega arith)) inl (has_push_cases [] x y first))
    inr
    (has_append_cases (x ∷ []) p y (has_shuffled q (x ∷ p) y taken has))

-- the least label has the smallest slot
pub least_slot : {q : List Label} {x : Label} → Least label_before x q → AllByRecursion (λ y. x.slot ≤ y.slot) q
least_slot {q} {x} least =
    All-weaker (λ y. label_before y x ≡ false) (λ y. x.slot ≤ y.slot) (λ y later. grind (arith, nat_tests)) q
    least.none_before

-- ---- the queue as a whole

pub keeps_none : (queue : Queue Label) → Keeps queue queue
keeps_none queue = record { same_room = refl; heap = λ heap. heap }

pub keeps_on : {first between last : Queue Label} → Keeps first between → Keeps between last → Keeps first last
keeps_on a b = record { same_room = b.same_room ∙ a.same_room; heap = λ heap. b.heap (a.heap heap) }
