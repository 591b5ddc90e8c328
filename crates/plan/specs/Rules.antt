-- Rules that are checked in order: of several that are broken the first counts.
use Rattle.std.specs.Prelude.{Bool, true, cond, ◌&&◌, List, [], ◌∷◌, Some, None, Option}

-- whether it is kept, and what is said where it is broken
pub record Rule (A : Type 0) : Type 0 where
  pub kept : Bool
  pub broken : A

abbrev pub rule : {A : Type 0} → Bool → A → Rule A
rule b a = record { kept = b; broken = a }

abbrev pub first_broken : {A : Type 0} → List (Rule A) → Option A
first_broken [] = None
first_broken (r ∷ rs) = cond r.kept (first_broken rs) (Some r.broken)

-- each rule is kept
abbrev pub keeps : {A : Type 0} → List (Rule A) → Bool
keeps [] = true
keeps (r ∷ rs) = r.kept && keeps rs

-- the same rules, with something else said where one is broken
abbrev pub saying : {A B : Type 0} → (A → B) → List (Rule A) → List (Rule B)
saying f [] = []
saying f (r ∷ rs) = rule r.kept (f r.broken) ∷ saying f rs

-- the test passes at each element
abbrev pub every : {A : Type 0} → (A → Bool) → List A → Bool
every test [] = true
every test (x ∷ xs) = test x && every test xs
