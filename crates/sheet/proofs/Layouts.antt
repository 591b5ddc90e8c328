-- The three records of a sheet tell what was written, and what is within a plan's ranges fits its widths.
use Rattle.std.proofs.Common.{◌≡◌, ℕ, ◌≤◌, Bool, true, List, [], ◌∷◌, length, get_or, refl, ap, arith}
use Rattle.std.proofs.lemmas.Bool.{and_parts}
use Rattle.std.proofs.lemmas.Bool.Decides.{nat_tests}
use Rattle.std.specs.List.{AllByRecursion}
use Rattle.plan.specs.Ranges.{closure_rules, closures_fit, segment_rules, segments_fit, settings_fit, settings_rules}
use Rattle.plan.specs.Rules.{every, keeps}
use Rattle.plan.specs.declared.parts.Closure.{Closure}
use Rattle.plan.specs.declared.parts.Segment.{Segment}
use Rattle.plan.specs.declared.parts.Settings.{Settings}
use Rattle.sheet.specs.Format.{closure_layout, segment_layout, settings_layout}
use Rattle.sheet.proofs.Packing.{Narrow}
use Rattle.sheet.proofs.RecordLists.{Faithful}

-- a list of so many numbers, by its places
three : (xs : List ℕ) → length xs ≡ 3 → (get_or xs 0 0 ∷ get_or xs 1 0 ∷ get_or xs 2 0 ∷ []) ≡ xs
three [] long = absurd (omega arith)
three (a ∷ []) long = absurd (omega arith)
three (a ∷ b ∷ []) long = absurd (omega arith)
three (a ∷ b ∷ c ∷ []) long = refl
three (a ∷ b ∷ c ∷ d ∷ xs) long = absurd (omega arith)

four : (xs : List ℕ) → length xs ≡ 4 → (get_or xs 0 0 ∷ get_or xs 1 0 ∷ get_or xs 2 0 ∷ get_or xs 3 0 ∷ []) ≡ xs
four [] long = absurd (omega arith)
four (a ∷ xs) long = ap (λ ys. a ∷ ys) (three xs (omega arith))

five : (xs : List ℕ) → length xs ≡ 5
    → (get_or xs 0 0 ∷ get_or xs 1 0 ∷ get_or xs 2 0 ∷ get_or xs 3 0 ∷ get_or xs 4 0 ∷ []) ≡ xs
five [] long = absurd (omega arith)
five (a ∷ xs) long = ap (λ ys. a ∷ ys) (four xs (omega arith))

pub settings_faithful : Faithful settings_layout
settings_faithful = record { positive = omega arith; valued = λ s. refl; remade = λ s. refl; revalued = four }

pub segment_faithful : Faithful segment_layout
segment_faithful = record { positive = omega arith; valued = λ g. refl; remade = λ g. refl; revalued = five }

pub closure_faithful : Faithful closure_layout
closure_faithful = record { positive = omega arith; valued = λ k. refl; remade = λ k. refl; revalued = three }

all_from_every : {A : Type 0} (test : A → Bool) (P : A → Type 0) → ((a : A) → test a ≡ true → P a)
    → (xs : List A) → every test xs ≡ true → AllByRecursion P xs
all_from_every test P step [] passed = tt
all_from_every test P step (x ∷ xs) passed =
    let parts = and_parts (test x) (every test xs) passed in
    (step x parts.0, all_from_every test P step xs parts.1)

pub settings_narrow : (s : Settings) → settings_fit s ≡ true → Narrow settings_layout.widths (settings_layout.values s)
unfolding settings_fit settings_rules
settings_narrow s fit =
    (grind (arith, nat_tests), (grind (arith, nat_tests), (grind (arith, nat_tests), (grind (arith, nat_tests), tt))))

-- at most 64 junctions and 128 segments have numbers of one byte
junctions_few : (s : Settings) → settings_fit s ≡ true → s.junctions ≤ 64
unfolding settings_fit settings_rules
junctions_few s fit = grind (arith, nat_tests)

horizon_few : (s : Settings) → settings_fit s ≡ true → s.horizon ≤ 512
unfolding settings_fit settings_rules
horizon_few s fit = grind (arith, nat_tests)

segment_narrow : (s : Settings) → s.junctions ≤ 64 → (g : Segment) → keeps (segment_rules s g) ≡ true
    → Narrow segment_layout.widths (segment_layout.values g)
unfolding segment_rules
segment_narrow s few g fit = (
  grind (arith, nat_tests),
  (grind (arith, nat_tests), (grind (arith, nat_tests), (grind (arith, nat_tests), (grind (arith, nat_tests), tt)))),
)

pub segments_narrow : (s : Settings) (gs : List Segment) → settings_fit s ≡ true → segments_fit s gs ≡ true
    → AllByRecursion (λ g. Narrow segment_layout.widths (segment_layout.values g)) gs
unfolding segments_fit
segments_narrow s gs set fit =
    all_from_every (λ g. keeps (segment_rules s g)) _ (segment_narrow s (junctions_few s set)) gs fit

closure_narrow : (s : Settings) (n : ℕ) → s.horizon ≤ 512 → n ≤ 128 → (k : Closure) → keeps (closure_rules s n k) ≡ true
    → Narrow closure_layout.widths (closure_layout.values k)
unfolding closure_rules
closure_narrow s n few known k fit = (grind (arith, nat_tests), (grind (arith, nat_tests), (grind (arith, nat_tests), tt)))

pub closures_narrow : (s : Settings) (n : ℕ) (ks : List Closure) → settings_fit s ≡ true → n ≤ 128
    → closures_fit s n ks ≡ true → AllByRecursion (λ k. Narrow closure_layout.widths (closure_layout.values k)) ks
unfolding closures_fit
closures_narrow s n ks set known fit =
    all_from_every (λ k. keeps (closure_rules s n k)) _ (closure_narrow s n (horizon_few s set) known) ks fit
