-- The first record of a section, and the rest of the section.
use Rattle.std.specs.Prelude.{◌≡◌, ℕ, ◌+◌, ◌<◌, List, [], ◌∷◌, length, Some, None, Option}
use Rattle.std.specs.Borrow.{Bor}
use Rattle.sheet.specs.Records.{Layout, size, told_all}

abbrev pub Next : {A : Type 0} → Layout A → List ℕ → Option (A × Bor (List ℕ)) → Type 0
Next layout section None = (length section < size layout.widths) × (told_all layout section ≡ [])
Next layout section (Some taken) =
    (length section ≡ size layout.widths + length taken.1.now)
    × (told_all layout section ≡ taken.0 ∷ told_all layout taken.1.now)

-- the same, of an iterator's step from what is left to what is left behind it
abbrev pub Takes : {A : Type 0} → Layout A → List ℕ → Option A → List ℕ → Type 0
Takes layout section None rest = told_all layout section ≡ []
Takes layout section (Some a) rest =
    (length section ≡ size layout.widths + length rest) × (told_all layout section ≡ a ∷ told_all layout rest)
