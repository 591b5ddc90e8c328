-- A search for the next admissible entry, entry by entry.
use Rattle.std.proofs.Common.{◌≡◌, ℕ, ◌+◌, ◌<◌, ◌≤◌, true, false, Some, None, Option, sym, ◌∙◌, subst, inl, inr, ⊎_elim, arith}
use Rattle.std.proofs.lemmas.Bool.{cases_Bool, cases_eq, cases_lt, true≢false}
use Rattle.std.specs.Option.{MatchOption}
use Rattle.book.specs.Entries.{IsNext, NextEntry, NoneBetween}
use Rattle.book.specs.Loads.{admissible}
use Rattle.book.specs.Meaning.{Meaning, Sound, horizon}
use Rattle.book.proofs.Loading.{admitted_known, admitted_within}

module _ (m : Meaning) (i from : ℕ) where
  pub none_yet : NoneBetween m i from from
  unfolding NoneBetween
  none_yet k later below = absurd (omega arith)

  pub none_more : (to : ℕ) → NoneBetween m i from to → admissible m (record { segment = i; entry = to }) ≡ false
      → NoneBetween m i from (to + 1)
  unfolding NoneBetween
  none_more to none here k later below =
      ⊎_elim
      (λ same. subst (λ e. admissible m (record { segment = i; entry = e }) ≡ false) (sym same) here)
      (λ apart. none k later (omega arith))
      (cases_eq k to)

  -- none up to one slot, and none from there up to another
  pub none_on : (middle to : ℕ) → NoneBetween m i from middle → NoneBetween m i middle to → NoneBetween m i from to
  unfolding NoneBetween
  none_on middle to none on k later below =
      ⊎_elim (λ before. none k later before) (λ past. on k past below) (cases_lt k middle)

  pub none_before : (e : ℕ) → NoneBetween m i from e → from ≤ e → admissible m (record { segment = i; entry = e }) ≡ true
      → IsNext m i from e
  unfolding NoneBetween
  none_before e none later fits =
      record {
        later = later;
        fits = fits;
        first = λ k from_on admitted.
            ⊎_elim
            (λ below. absurd (true≢false (sym admitted ∙ none k from_on below)))
            (λ past. past)
            (cases_lt k e);
      }

  -- none enters at the horizon or later
  pub none_after : (to : ℕ) → Sound m → NoneBetween m i from to → horizon m ≤ to
      → (k : ℕ) → from ≤ k → admissible m (record { segment = i; entry = k }) ≡ false
  unfolding NoneBetween
  none_after to sound none past k later =
      elim (cases_Bool (admissible m (record { segment = i; entry = k }))) [
        | inl admitted ↦
            let known = admitted_known m _ admitted in
            let within = admitted_within m _ admitted in
            let takes = (sound.plan_fits.roads_fit i known).takes_a_slot in
            none k later (omega arith)
        | inr not_admitted ↦ not_admitted
      ]

  -- a search of the slots from `from` up to the horizon finds the next entry
  pub next_found : (to : ℕ) (r : Option ℕ) → Sound m → horizon m ≤ to
      → MatchOption r ((k : ℕ) → from ≤ k → k < to → admissible m (record { segment = i; entry = k }) ≡ false)
      (λ e. (from ≤ e) × (e < to) × (admissible m (record { segment = i; entry = e }) ≡ true)
      × ((k : ℕ) → from ≤ k → k < e → admissible m (record { segment = i; entry = k }) ≡ false))
      → NextEntry m i from r
  unfolding NoneBetween
  next_found to None sound past none = none_after to sound none past
  next_found to (Some e) sound past found = none_before e found.3 found.0 found.2
