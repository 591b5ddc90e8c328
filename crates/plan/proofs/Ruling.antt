-- Rules in order: none is broken exactly where each is kept.
use Rattle.std.proofs.Common.{◌≡◌, ℕ, zero, suc, Bool, true, false, cond, ◌&&◌, List, [], ◌∷◌, ◌++◌, Some, None, Option, refl, ap, ◌∙◌, subst, arith}
use Rattle.std.proofs.lemmas.Bool.{and_from, and_parts, cond-true}
use Rattle.std.specs.List.{slice_get}
use Rattle.std.specs.Option.{option_map}
use Rattle.plan.specs.Rules.{Rule, every, first_broken, keeps, saying}

pub none_broken : {A : Type 0} (rs : List (Rule A)) → keeps rs ≡ true → first_broken rs ≡ None
none_broken [] kept = refl
none_broken (r ∷ rs) kept =
    let parts = and_parts r.kept (keeps rs) kept in
    cond-true r.kept _ _ parts.0 ∙ none_broken rs parts.1

kept_first : {A : Type 0} (b : Bool) (o : Option A) (a : A) → cond b o (Some a) ≡ None → (b ≡ true) × (o ≡ None)
kept_first true o a none = (refl, none)
kept_first false o a none = absurd (let z : ◌≡◌ {A = ℕ} 0 1 = cc in omega arith)

pub all_kept : {A : Type 0} (rs : List (Rule A)) → first_broken rs ≡ None → keeps rs ≡ true
all_kept [] none = refl
all_kept (r ∷ rs) none =
    let parts = kept_first r.kept (first_broken rs) r.broken none in
    and_from r.kept (keeps rs) parts.0 (all_kept rs parts.1)

pub every_push : {A : Type 0} (test : A → Bool) (xs : List A) (x : A)
    → every test xs ≡ true → test x ≡ true → every test (xs ++ x ∷ []) ≡ true
every_push test [] x all here = and_from (test x) true here refl
every_push test (y ∷ ys) x all here =
    let parts = and_parts (test y) (every test ys) all in
    and_from (test y) (every test (ys ++ x ∷ [])) parts.0 (every_push test ys x parts.1 here)

-- an element that is added, or not, passes where it is added
pub every_added : {A : Type 0} (test : A → Bool) (xs : List A) (x : A) (added : Bool) (after : List A)
    → after ≡ cond added (xs ++ x ∷ []) xs → every test xs ≡ true → (added ≡ true → test x ≡ true)
    → every test after ≡ true
every_added test xs x true after grown all here = ap (every test) grown ∙ every_push test xs x all (here refl)
every_added test xs x false after grown all here = ap (every test) grown ∙ all

pub every_weaker : {A : Type 0} (test weaker : A → Bool) → ((x : A) → test x ≡ true → weaker x ≡ true)
    → (xs : List A) → every test xs ≡ true → every weaker xs ≡ true
every_weaker test weaker step [] all = refl
every_weaker test weaker step (y ∷ ys) all =
    let parts = and_parts (test y) (every test ys) all in
    and_from (weaker y) (every weaker ys) (step y parts.0) (every_weaker test weaker step ys parts.1)

pub every_nth : {A : Type 0} (test : A → Bool) (xs : List A) (i : ℕ) (x : A)
    → every test xs ≡ true → slice_get xs i ≡ Some x → test x ≡ true
every_nth test [] i x all at = absurd (let z : ◌≡◌ {A = ℕ} 0 1 = cc in omega arith)
every_nth test (y ∷ ys) zero x all at =
    let same : y ≡ x = cc in
    subst (λ z. test z ≡ true) same (and_parts (test y) (every test ys) all).0
every_nth test (y ∷ ys) (suc i) x all at = every_nth test ys i x (and_parts (test y) (every test ys) all).1 at

pub keeps_append : {A : Type 0} (rs ss : List (Rule A)) → keeps rs ≡ true → keeps ss ≡ true → keeps (rs ++ ss) ≡ true
keeps_append [] ss first second = second
keeps_append (r ∷ rs) ss first second =
    let parts = and_parts r.kept (keeps rs) first in
    and_from r.kept (keeps (rs ++ ss)) parts.0 (keeps_append rs ss parts.1 second)

pub keeps_parts : {A : Type 0} (rs ss : List (Rule A)) → keeps (rs ++ ss) ≡ true → (keeps rs ≡ true) × (keeps ss ≡ true)
keeps_parts [] ss both = (refl, both)
keeps_parts (r ∷ rs) ss both =
    let parts = and_parts r.kept (keeps (rs ++ ss)) both in
    let rest = keeps_parts rs ss parts.1 in
    (and_from r.kept (keeps rs) parts.0 rest.0, rest.1)

pub keeps_saying : {A B : Type 0} (f : A → B) (rs : List (Rule A)) → keeps (saying f rs) ≡ keeps rs
keeps_saying f [] = refl
keeps_saying f (r ∷ rs) = ap (λ b. r.kept && b) (keeps_saying f rs)

broken_cons : {A : Type 0} (b : Bool) (o o' : Option A) (x a : A) → cond b o (Some x) ≡ Some a
    → (o ≡ Some a → o' ≡ Some a) → cond b o' (Some x) ≡ Some a
broken_cons true o o' x a some rest = rest some
broken_cons false o o' x a some rest = some

saying_cons : {A B : Type 0} (f : A → B) (b : Bool) (o : Option A) (o' : Option B) (x : A) → o' ≡ option_map f o
    → cond b o' (Some (f x)) ≡ option_map f (cond b o (Some x))
saying_cons f true o o' x rest = rest
saying_cons f false o o' x rest = refl

-- of two lists of rules the second counts where none of the first is broken
pub broken_first : {A : Type 0} (rs ss : List (Rule A)) (a : A) → first_broken rs ≡ Some a → first_broken (rs ++ ss) ≡ Some a
broken_first [] ss a some = absurd (let z : ◌≡◌ {A = ℕ} 0 1 = cc in omega arith)
broken_first (r ∷ rs) ss a some = broken_cons r.kept _ _ r.broken a some (broken_first rs ss a)

pub broken_second : {A : Type 0} (rs ss : List (Rule A)) → first_broken rs ≡ None → first_broken (rs ++ ss) ≡ first_broken ss
broken_second [] ss none = refl
broken_second (r ∷ rs) ss none =
    let parts = kept_first r.kept (first_broken rs) r.broken none in
    cond-true r.kept _ _ parts.0 ∙ broken_second rs ss parts.1

pub broken_saying : {A B : Type 0} (f : A → B) (rs : List (Rule A)) → first_broken (saying f rs) ≡ option_map f (first_broken rs)
broken_saying f [] = refl
broken_saying f (r ∷ rs) = saying_cons f r.kept _ _ r.broken (broken_saying f rs)
