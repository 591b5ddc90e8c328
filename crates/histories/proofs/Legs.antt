-- How often each leg stands in a book with more legs.
use Rattle.std.proofs.Common.{◌≡◌, ℕ, ◌+◌, List, [], ◌∷◌, sum_by, refl, arith}
use Rattle.std.proofs.lemmas.List.Sums.{sum_by-cons}
use Rattle.book.specs.Meaning.{Meaning, one, plus}
use Rattle.book.specs.declared.legs.Leg.{Leg}
use Rattle.bookings.specs.Owed.{more}

-- how often the leg of segment i and entry e is among the legs
abbrev pub often : List Leg → ℕ → ℕ → ℕ
often ls i e = sum_by (λ l. one l i e) ls

pub more_standing : (m : Meaning) (ls : List Leg) (i e : ℕ) → (more m ls).standing i e ≡ m.standing i e + often ls i e
more_standing m [] i e = omega arith
more_standing m (l ∷ ls) i e =
    omega (arith, more_standing (plus m l) ls i e, sum_by-cons (λ k. one k i e) l ls)

pub more_shown : (m : Meaning) (ls : List Leg) → (more m ls).shown ≡ m.shown
more_shown m [] = refl
more_shown m (l ∷ ls) = more_shown (plus m l) ls

pub more_bars : (m : Meaning) (ls : List Leg) → (more m ls).bars ≡ m.bars
more_bars m [] = refl
more_bars m (l ∷ ls) = more_bars (plus m l) ls
