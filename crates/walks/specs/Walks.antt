-- Timed walks, the earliest slot at which a junction is reached, and the chosen route.
use Rattle.std.specs.Prelude.{◌≡◌, ℕ, ◌+◌, ◌-◌, ◌<◌, ◌≤◌, true, ◌≢◌, List, [], ◌∷◌, map, reverse}
use Rattle.std.specs.List.{AllByRecursion}
use Rattle.book.specs.Loads.{admissible}
use Rattle.book.specs.Meaning.{Meaning, road, segments}
use Rattle.book.specs.declared.legs.Leg.{Leg}

-- where a segment starts and ends, and its travel slots
abbrev pub from : Meaning → ℕ → ℕ
from m i = (road m i).start

abbrev pub to : Meaning → ℕ → ℕ
to m i = (road m i).end

abbrev pub slots : Meaning → ℕ → ℕ
slots m i = (road m i).slots

-- the leg over segment i that is entered at e
abbrev pub leg : ℕ → ℕ → Leg
leg i e = record { segment = i; entry = e }

-- the slot at which a leg ends
abbrev pub end_of : Meaning → Leg → ℕ
end_of m l = l.entry + slots m l.segment

-- ---- walks

-- a carrier that stands at junction o from slot t on may take the leg l; waiting is free
pub record Takes (m : Meaning) (o t : ℕ) (l : Leg) : Type 0 where
  pub fits : admissible m l ≡ true
  pub starts : from m l.segment ≡ o
  pub waits : t ≤ l.entry

-- the legs lead from junction o, left at slot t or later, to junction v, where they end at slot a; the empty list is a
-- walk from o to itself that ends at t
abbrev pub Walk : Meaning → ℕ → ℕ → ℕ → ℕ → List Leg → Type 0
Walk m o t v a [] = (o ≡ v) × (t ≡ a)
Walk m o t v a (l ∷ ls) = Takes m o t l × Walk m (to m l.segment) (end_of m l) v a ls

-- some walk leads to v
abbrev pub SomeWalk : Meaning → ℕ → ℕ → ℕ → Type 0
SomeWalk m o t v = (a : ℕ) × (legs : List Leg) × Walk m o t v a legs

-- E(v) is a, the smallest slot at which a walk to v ends
pub record Earliest (m : Meaning) (o t v a : ℕ) : Type 0 where
  pub legs : List Leg
  pub walk : Walk m o t v a legs
  pub least : (b : ℕ) (ls : List Leg) → Walk m o t v b ls → a ≤ b

-- ---- the chosen route

-- segment i can be the last one into v, which is reached at a: E of its start is at most a less its travel slots, and
-- its leg entered then is admissible
pub record Into (m : Meaning) (o t v a i : ℕ) : Type 0 where
  pub known : i < segments m
  pub ends : to m i ≡ v
  pub start_slot : ℕ
  pub start_earliest : Earliest m o t (from m i) start_slot
  pub reaches : start_slot + slots m i ≤ a
  pub fits : admissible m (leg i (a - slots m i)) ≡ true

-- the tie rule: l is the last leg into v, over the lowest-numbered segment that can be, and ends at E(v)
pub record Last (m : Meaning) (o t v : ℕ) (l : Leg) : Type 0 where
  pub arrival : ℕ
  pub earliest : Earliest m o t v arrival
  pub into : Into m o t v arrival l.segment
  pub lowest : (j : ℕ) → j < l.segment → Into m o t v arrival j → ⊥
  pub enters : l.entry ≡ arrival - slots m l.segment

-- the legs to v from the last one back, until the origin: each is the last leg into the junction where it ends
abbrev pub Traced : Meaning → ℕ → ℕ → ℕ → List Leg → Type 0
Traced m o t v [] = v ≡ o
Traced m o t v (l ∷ ls) = (v ≢ o) × Last m o t v l × Traced m o t (from m l.segment) ls

-- the legs are the chosen route from o at t to v
abbrev pub Chosen : Meaning → ℕ → ℕ → ℕ → List Leg → Type 0
Chosen m o t v legs = Traced m o t v (reverse legs)

-- ---- what a route uses

-- the segment of each leg
abbrev pub segments_of : List Leg → List ℕ
segments_of legs = map (λ l. l.segment) legs

-- the origin, and then the junction where each leg ends
abbrev pub visited : Meaning → ℕ → List Leg → List ℕ
visited m o legs = o ∷ map (to m) (segments_of legs)

-- no two of the numbers are equal
abbrev pub Different : List ℕ → Type 0
Different [] = Unit {0}
Different (n ∷ ns) = AllByRecursion (λ k. k ≢ n) ns × Different ns
