-- Until when an entry is closed.
use Rattle.std.proofs.Common.{◌≡◌, ℕ, suc, ◌+◌, ◌<◌, ◌≤◌, Bool, true, false, not, ◌&&◌, eqb, List, [], ◌∷◌, length, sym, subst, get_or, is_some, Some, None, Option, refl, ap, ◌∙◌, inl, inr, ⊎_elim, arith}
use Rattle.std.proofs.lemmas.Bool.{and_from, and_left, and_parts, and_right, cases_Bool, cases_lt}
use Rattle.std.specs.List.{AllWithin, HoldsAt}
use Rattle.std.specs.Option.{MatchOption, option_map}
use Rattle.plan.specs.declared.parts.Closure.{Closure}
use Rattle.book.specs.Layered.{any_below, closed, closed_by, closing, covers, held_back}
use Rattle.book.specs.Loads.{admissible}
use Rattle.book.specs.Entries.{IsNext, NextEntry, NoneBetween}
use Rattle.book.specs.Meaning.{Meaning}
use Rattle.book.specs.declared.legs.Leg.{Leg}
use Rattle.book.proofs.Covering.{closed_by_one, covers_before_end, covers_through}
use Rattle.book.proofs.Entering.{none_before, none_on}
use Rattle.book.proofs.Piling.{admissible_held_closed}
use Rattle.layers.specs.Closures.{ClosedUntil}

-- an entry is open exactly where no slot until which it is closed is told
pub open_told : (closed : ℕ → Bool) (e : ℕ) (until : Option ℕ) (told : Bool) → ClosedUntil closed e until
    → is_some until ≡ not told → told ≡ not (closed e)
open_told closed e None told none is = let shut = none in grind (arith, shut, is)
open_told closed e (Some slot) told some is =
    let shut : closed e ≡ true = some.1 e (omega arith) some.0 in
    grind (arith, shut, is)

-- whether a closure bars an entry of segment i, where a leg takes u slots
abbrev pub bars : ℕ → ℕ → ℕ → Closure → Bool
bars i u e k = eqb k.segment i && any_below u (λ j. covers k (e + j))

none_closes : (ks : List Closure) (i u e : ℕ) → AllWithin (λ k. bars i u e k ≡ false) ks 0 (length ks)
    → closed_by ks i u e ≡ false
none_closes [] i u e none = refl
none_closes (k ∷ ks) i u e none =
    let here = none 0 k (omega arith) (omega arith) in
    let rest = none_closes ks i u e (λ n d later below. none (suc n) d (omega arith) (omega arith)) in
    grind (arith, here, rest)

-- a closure that bars an entry closes the segment until its end
closed_to_end : (ks : List Closure) (n : ℕ) (k : Closure) (i u e : ℕ) → n < length ks → ((d : Closure) → get_or ks n d ≡ k)
    → bars i u e k ≡ true → ClosedUntil (closed_by ks i u) e (Some k.end)
closed_to_end ks n k i u e within is barred =
    let parts = and_parts (eqb k.segment i) (any_below u (λ j. covers k (e + j))) barred in (
      covers_before_end k e u parts.1,
      λ x later before.
          closed_by_one ks n k i u x within (subst (λ h. bars i u x h ≡ true) (sym (is k))
          (and_from (eqb k.segment i) _ parts.0 (covers_through k e u x parts.1 later before))),
    )

-- the first closure that bars an entry tells until when it is closed
pub until_told : {A : Type 0} (v : A → Closure) (ks : List Closure) (i u e : ℕ) (found : Option A)
    → MatchOption found (AllWithin (λ k. bars i u e k ≡ false) ks 0 (length ks))
    (λ x. (bars i u e (v x) ≡ true) × (n : ℕ) × (n < length ks) × HoldsAt (λ k. k ≡ v x) ks n
    × AllWithin (λ k. bars i u e k ≡ false) ks 0 n)
    → ClosedUntil (closed_by ks i u) e (option_map (λ x. (v x).end) found)
until_told v ks i u e None none = none_closes ks i u e none
until_told v ks i u e (Some x) some = closed_to_end ks some.1 (v x) i u e some.2 some.3 some.0

-- ---- the next open entry, where the book below has been asked from the slot `first` on
module _ (held : ℕ) (ks : List Closure) (m : Meaning) (i : ℕ) where
  abbrev over : Meaning
  over = held_back held (closed ks m)

  abbrev at : ℕ → Leg
  at e = record { segment = i; entry = e }

  not_below : (k : ℕ) → admissible (held_back held m) (at k) ≡ false → admissible over (at k) ≡ false
  not_below k no_room =
      admissible_held_closed held ks m (at k) ∙ and_left (admissible (held_back held m) (at k)) _ no_room

  none_below : (first slot : ℕ) → IsNext (held_back held m) i first slot → NoneBetween over i first slot
  unfolding NoneBetween
  none_below first slot next k later before =
      elim (cases_Bool (admissible (held_back held m) (at k))) [
        | inl admitted ↦ absurd (omega (arith, next.first k later admitted))
        | inr not_admitted ↦ not_below k not_admitted
      ]

  while_closed : (e slot : ℕ) → ClosedUntil (closing ks m.shown i) e (Some slot) → NoneBetween over i e slot
  unfolding NoneBetween
  while_closed e slot shut k later before =
      admissible_held_closed held ks m (at k)
      ∙ ap (λ b. admissible (held_back held m) (at k) && not b) (shut.1 k later before)
      ∙ and_right (admissible (held_back held m) (at k)) false refl

  pub open_is_next : (from first slot : ℕ) → from ≤ first → NoneBetween over i from first
      → IsNext (held_back held m) i first slot → closing ks m.shown i slot ≡ false → IsNext over i from slot
  open_is_next from first slot on none next free =
      let here = admissible_held_closed held ks m (at slot)
      ∙ ap (λ b. admissible (held_back held m) (at slot) && not b) free
      ∙ and_from (admissible (held_back held m) (at slot)) true next.fits refl in
      let later = next.later in
      none_before over i from slot (none_on over i from first slot none (none_below first slot next)) (omega arith) here

  pub none_until_open : (from first slot again : ℕ) → NoneBetween over i from first
      → IsNext (held_back held m) i first slot → ClosedUntil (closing ks m.shown i) slot (Some again)
      → NoneBetween over i from again
  none_until_open from first slot again none next shut =
      none_on over i from slot again (none_on over i from first slot none (none_below first slot next))
      (while_closed slot again shut)

  pub none_left : (from first : ℕ) → NoneBetween over i from first → NextEntry (held_back held m) i first None
      → NextEntry over i from None
  unfolding NoneBetween
  none_left from first none rest k later =
      ⊎_elim (λ before. none k later before) (λ past. not_below k (rest k past)) (cases_lt k first)
