-- Whole lines: one call at most, one column at most, and the bytes that decide.
use Rattle.std.proofs.Common.{◌≡◌, ℕ, suc, ◌-◌, ◌<◌, ◌≤◌, cond, eqb, List, [], ◌∷◌, ◌++◌, length, get_or, take, drop, Ok, Err, MatchResult, Result, sym, refl, ap, ◌∙◌, subst, ⊎_elim, arith}
use Rattle.std.proofs.lemmas.List.{append_assoc, length-append, length-take, length-take-le, nil_from_length, take_all, take-append-drop, take-take}
use Rattle.std.specs.Result.{IsOkAnd}
use Rattle.std.proofs.lemmas.Bool.{cases_lt, cases_order}
use Rattle.call_lines.specs.Grammar.{Digit, Spaced, Spells, letter, numbers}
use Rattle.call_lines.specs.Parsing.{Answers, Breaks, Continues, Parses, deciding}
use Rattle.call_lines.specs.Stops.{GoesOn, Reads, StopsAt}
use Rattle.call_lines.specs.Words.{Begins, column_of}
use Rattle.call_lines.specs.declared.calls.LineCall.{LineCall}
use Rattle.call_lines.specs.declared.calls.LineCall.TheVariants as call
use Rattle.call_lines.specs.declared.words.Rest.{Rest}
use Rattle.call_lines.specs.declared.words.Word.{Word}
use Rattle.call_lines.specs.declared.words.Word.TheVariants.{Letter}
use Rattle.call_lines.proofs.Reading.{letter_first, word_at}
use Rattle.call_lines.proofs.Spacing.{spaced_length, spaced_unique}

-- a call by its letter and its numbers
abbrev rebuilt : ℕ → List ℕ → LineCall
rebuilt l ns =
    cond (eqb l 82) (call.Request (get_or ns 0 0) (get_or ns 1 0) (get_or ns 2 0))
    (cond (eqb l 67) (call.Confirm (get_or ns 0 0))
    (cond (eqb l 87) (call.Withdraw (get_or ns 0 0)) (cond (eqb l 65) (call.Arrive (get_or ns 0 0)) call.List)))

rebuilt_is : (c : LineCall) → rebuilt (letter c) (numbers c) ≡ c
rebuilt_is (call.Request origin destination slot) = refl
rebuilt_is (call.Confirm number) = refl
rebuilt_is (call.Withdraw number) = refl
rebuilt_is (call.Arrive number) = refl
rebuilt_is call.List = refl

pub spells_unique : (line : List ℕ) (c d : LineCall) → Spells line c → Spells line d → c ≡ d
spells_unique line c d one other =
    let same : letter c ∷ one.0 ≡ letter d ∷ other.0 = sym one.1 ∙ other.1 in
    let same_letter : letter c ≡ letter d = cc (same) in
    let same_rest : one.0 ≡ other.0 = cc (same) in
    let same_numbers : numbers c ≡ numbers d =
    spaced_unique (numbers c) (numbers d) other.0 (subst (Spaced (numbers c)) same_rest one.2) other.2 in
    sym (rebuilt_is c) ∙ (λ j. rebuilt (same_letter j) (same_numbers j)) ∙ rebuilt_is d

-- how many numbers a letter goes with
abbrev count_of : ℕ → ℕ
count_of l = cond (eqb l 82) 3 (cond (eqb l 76) 0 1)

counted : (c : LineCall) → length (numbers c) ≡ count_of (letter c)
counted (call.Request origin destination slot) = refl
counted (call.Confirm number) = refl
counted (call.Withdraw number) = refl
counted (call.Arrive number) = refl
counted call.List = refl

one_only : (ns : List ℕ) → length ns ≡ 1 → get_or ns 0 0 ∷ [] ≡ ns
one_only [] long = absurd (omega arith)
one_only (a ∷ []) long = refl
one_only (a ∷ b ∷ ns) long = absurd (omega arith)

three_only : (ns : List ℕ) → length ns ≡ 3 → get_or ns 0 0 ∷ get_or ns 1 0 ∷ get_or ns 2 0 ∷ [] ≡ ns
three_only [] long = absurd (omega arith)
three_only (a ∷ []) long = absurd (omega arith)
three_only (a ∷ b ∷ []) long = absurd (omega arith)
three_only (a ∷ b ∷ c ∷ []) long = refl
three_only (a ∷ b ∷ c ∷ d ∷ ns) long = absurd (omega arith)

-- a call with the letter of another and other numbers, as many
with_numbers :
    (c : LineCall) (ns : List ℕ)
    → length ns ≡ length (numbers c) → (d : LineCall) × (letter d ≡ letter c) × (numbers d ≡ ns)
with_numbers (call.Request origin destination slot) ns long =
    (call.Request (get_or ns 0 0) (get_or ns 1 0) (get_or ns 2 0), refl, three_only ns long)
with_numbers (call.Confirm number) ns long = (call.Confirm (get_or ns 0 0), refl, one_only ns long)
with_numbers (call.Withdraw number) ns long = (call.Withdraw (get_or ns 0 0), refl, one_only ns long)
with_numbers (call.Arrive number) ns long = (call.Arrive (get_or ns 0 0), refl, one_only ns long)
with_numbers call.List ns long = (call.List, refl, sym (nil_from_length ns long))

continues_letter : (c : LineCall) (bytes : List ℕ) → GoesOn (length (numbers c)) bytes → Continues (letter c ∷ bytes)
continues_letter c bytes more =
    let made = with_numbers c more.1 more.2 in (
      more.0,
      made.0,
      (
        bytes ++ more.0,
        ap (λ k. k ∷ (bytes ++ more.0)) (sym made.1),
        subst (λ ns. Spaced ns (bytes ++ more.0)) (sym made.2) more.3,
      ),
    )

-- what spells a call behind the letter of a call
spaced_at_letter :
    (c d : LineCall) (bytes : List ℕ)
    → Spells (letter c ∷ bytes) d → (length (numbers d) ≡ length (numbers c)) × Spaced (numbers d) bytes
spaced_at_letter c d bytes spells =
    let same_letter : letter d ≡ letter c = cc spells.1 in
    let same_rest : spells.0 ≡ bytes = cc spells.1 in (
      counted d ∙ ap count_of same_letter ∙ sym (counted c),
      subst (Spaced (numbers d)) same_rest spells.2,
    )

-- a line that breaks the form behind its letter
breaks_letter :
    (c : LineCall) (rest : List ℕ) (column : ℕ)
    → StopsAt (length (numbers c)) rest 2 column → Breaks (letter c ∷ rest) column
breaks_letter c rest column at =
    let place = at.0 in
    let stops = at.2 in
    let here = at.1 in
    let within = stops.within in
    let before : column - 1 ≡ suc place = omega arith in
    let upto : column ≡ suc (suc place) = omega arith in
    record {
      none = λ d spells.
          let spaced = spaced_at_letter c d rest spells in
          stops.none (numbers d) spaced.0 spaced.1;
      from_one = omega arith;
      within = omega arith;
      before =
          subst (λ k. Continues (take k (letter c ∷ rest))) (sym before)
          (continues_letter c (take place rest) stops.before);
      here = λ inside more.
          let longer = subst (λ k. Continues (take k (letter c ∷ rest))) upto more in
          let spaced = spaced_at_letter c longer.1 (take (suc place) rest ++ longer.0) longer.2 in
          stops.here (omega arith) (longer.0, numbers longer.1, spaced.0, spaced.1);
    }

first_here :
    (line : List ℕ)
    → ((rest : List ℕ) (c : LineCall) → line ≡ letter c ∷ rest → ⊥)
    → 1 ≤ length line → Continues (take 1 line) → ⊥
first_here [] none inside more = omega arith
first_here (b ∷ bs) none inside more =
    let same : b ≡ letter more.1 = cc more.2.1 in
    none bs more.1 (ap (λ k. k ∷ bs) same)

-- a line that begins with the letter of no call
breaks_first : (line : List ℕ) → ((rest : List ℕ) (c : LineCall) → line ≡ letter c ∷ rest → ⊥) → Breaks line 1
breaks_first line none = record {
  none = λ c spells. none spells.0 c spells.1;
  from_one = omega arith;
  within = omega arith;
  before = (76 ∷ [], call.List, ([], refl, refl));
  here = first_here line none;
}

letter_no_digit : (c : LineCall) → Digit (letter c) → ⊥
letter_no_digit (call.Request origin destination slot) digit = omega arith
letter_no_digit (call.Confirm number) digit = omega arith
letter_no_digit (call.Withdraw number) digit = omega arith
letter_no_digit (call.Arrive number) digit = omega arith
letter_no_digit call.List digit = omega arith

pub no_letter :
    (byte : ℕ)
    → (byte ≡ 82 → ⊥) → (byte ≡ 67 → ⊥) → (byte ≡ 87 → ⊥) → (byte ≡ 65 → ⊥) → (byte ≡ 76 → ⊥)
    → (c : LineCall) → letter c ≡ byte → ⊥
no_letter byte not_r not_c not_w not_a not_l (call.Request origin destination slot) same = not_r (sym same)
no_letter byte not_r not_c not_w not_a not_l (call.Confirm number) same = not_c (sym same)
no_letter byte not_r not_c not_w not_a not_l (call.Withdraw number) same = not_w (sym same)
no_letter byte not_r not_c not_w not_a not_l (call.Arrive number) same = not_a (sym same)
no_letter byte not_r not_c not_w not_a not_l call.List same = not_l (sym same)

continues_shorter : (bytes : List ℕ) (n : ℕ) → Continues bytes → Continues (take n bytes)
continues_shorter bytes n more =
    let whole : take n bytes ++ (drop n bytes ++ more.0) ≡ bytes ++ more.0 =
    sym (append_assoc (take n bytes) (drop n bytes) more.0)
    ∙ ap (λ l. l ++ more.0) (take-append-drop n bytes) in
    (drop n bytes ++ more.0, more.1, subst (λ l. Spells l more.1) (sym whole) more.2)

-- no line breaks the form at two columns
none_before : (line : List ℕ) (a b : ℕ) → Breaks line a → Breaks line b → a < b → ⊥
none_before line a b first second less =
    let within = second.within in
    let shorter = continues_shorter (take (b - 1) line) a second.before in
    first.here (omega arith) (subst Continues (take-take a (b - 1) line (omega arith)) shorter)

pub breaks_unique : (line : List ℕ) (a b : ℕ) → Breaks line a → Breaks line b → a ≡ b
breaks_unique line a b first second =
    ⊎_elim (λ same. same)
    (λ differ. absurd (⊎_elim (none_before line a b first second) (none_before line b a second first) differ))
    (cases_order a b)

pub parses_unique :
    (line : List ℕ) (r s : Result LineCall ℕ) → Parses line r → Parses line s → s ≡ r
parses_unique line (Ok c) (Ok d) one other = ap Ok (spells_unique line d c other one)
parses_unique line (Ok c) (Err b) one other = absurd (other.none c one)
parses_unique line (Err a) (Ok d) one other = absurd (one.none d other)
parses_unique line (Err a) (Err b) one other = ap Err (breaks_unique line b a other one)

numbers_few : (c : LineCall) → length (numbers c) ≤ 3
numbers_few (call.Request origin destination slot) = omega arith
numbers_few (call.Confirm number) = omega arith
numbers_few (call.Withdraw number) = omega arith
numbers_few (call.Arrive number) = omega arith
numbers_few call.List = omega arith

-- no call is spelled by more than 19 bytes
pub spells_short : (line : List ℕ) (c : LineCall) → Spells line c → length line < deciding
spells_short line c spells =
    omega (arith, ap length spells.1, spaced_length (numbers c) spells.0 spells.2, numbers_few c)

continues_short : (bytes : List ℕ) → Continues bytes → length bytes < deciding
continues_short bytes more =
    omega (arith, spells_short (bytes ++ more.0) more.1 more.2, length-append bytes more.0)

same_when_short :
    (line other : List ℕ) → take deciding other ≡ take deciding line → length line < deciding → other ≡ line
same_when_short line other same short =
    let sizes = ap length same in
    let size : length other < deciding = omega (arith, length-take deciding other, length-take deciding line) in
    sym (take_all deciding other (omega arith)) ∙ same ∙ take_all deciding line (omega arith)

long_too :
    (line other : List ℕ)
    → take deciding other ≡ take deciding line → deciding ≤ length line → deciding ≤ length other
long_too line other same long =
    omega (arith, ap length same, length-take deciding other, length-take deciding line)

same_front :
    (line other : List ℕ) (n : ℕ) → take deciding other ≡ take deciding line → n ≤ deciding → take n line ≡ take n other
same_front line other n same few =
    sym (take-take n deciding line few) ∙ ap (take n) (sym same) ∙ take-take n deciding other few

long_enough :
    (line other : List ℕ) (r : Result LineCall ℕ)
    → take deciding other ≡ take deciding line → deciding ≤ length line → Parses line r → Parses other r
long_enough line other (Ok c) same long parses = absurd (omega (arith, spells_short line c parses))
long_enough line other (Err column) same long breaks =
    let size = long_too line other same long in
    let within = breaks.within in
    let from_one = breaks.from_one in
    let few = continues_short (take (column - 1) line) breaks.before in
    let taken = length-take-le (column - 1) line (omega arith) in
    record {
      none = λ c spells. omega (arith, spells_short other c spells);
      from_one = omega arith;
      within = omega arith;
      before = subst Continues (same_front line other (column - 1) same (omega arith)) breaks.before;
      here = λ inside more.
          breaks.here (omega arith)
          (subst Continues (sym (same_front line other column same (omega arith))) more);
    }

pub deciding_bytes :
    (line other : List ℕ) (r : Result LineCall ℕ)
    → take deciding other ≡ take deciding line → Parses line r → Parses other r
deciding_bytes line other r same parses =
    ⊎_elim
    (λ short. subst (λ l. Parses l r) (sym (same_when_short line other same short)) parses)
    (λ long. long_enough line other r same long parses)
    (cases_lt (length line) deciding)

pub answers : (line : List ℕ) (r : Result LineCall ℕ) → Parses line r → Answers deciding line r
answers line r parses = record {
  parses = parses;
  alone = λ other. parses_unique line r other parses;
  enough = λ other same. deciding_bytes line other r same parses;
}

-- the first word of a line is no letter
pub answers_no_letter :
    (line : List ℕ) (word : Word) {column : ℕ}
    → Begins line 1 word → column ≡ column_of word → ((b k : ℕ) → word ≡ Letter b k → ⊥)
    → Answers deciding line (Err column)
answers_no_letter line word begins at other =
    let first = at ∙ word_at line 1 word begins in
    answers line (Err _) (subst (Breaks line) (sym first)
    (breaks_first line (λ rest c is.
    let found = letter_first line 1 word (letter c) rest begins is (letter_no_digit c) in
    other (letter c) found.0 found.1)))

-- a line that begins with a letter, and the rest behind that
module _ (line : List ℕ) {byte column : ℕ} (begins : Begins line 1 (Letter byte column)) where
  -- it is the letter of no call
  pub answers_other : ((c : LineCall) → letter c ≡ byte → ⊥) → Answers deciding line (Err column)
  answers_other none =
      let joined = begins.2.1 in
      answers line (Err column) (subst (Breaks line) (sym begins.0) (breaks_first line (λ rest c is. none c (cc))))

  module _ (after : Rest) (left : after.bytes.now ≡ drop 1 line) (c : LineCall) (same : byte ≡ letter c) where
    behind_letter : line ≡ letter c ∷ after.bytes.now
    behind_letter =
        let tail : after.bytes.now ≡ begins.2.0 = left ∙ ap (drop 1) begins.2.1 in
        begins.2.1 ∙ (λ j. same j ∷ sym tail j)

    -- the rest has its numbers
    answers_call : Spaced (numbers c) after.bytes.now → Answers deciding line (Ok c)
    answers_call spaced = answers line (Ok c) (after.bytes.now, behind_letter, spaced)

    -- the rest breaks the form
    answers_column :
        {at : ℕ}
        → after.column ≡ 2
        → StopsAt (length (numbers c)) after.bytes.now after.column at
        → Answers deciding line (Err at)
    answers_column {at} second stops =
        answers line (Err at)
        (subst (λ l. Breaks l at) (sym behind_letter)
        (breaks_letter c after.bytes.now at
        (subst (λ start. StopsAt (length (numbers c)) after.bytes.now start at) second stops)))

  -- what the rest tells, made into a call
  pub answers_made :
      {X : Type 0} {Made : X → LineCall → Type 0} (after : Rest) (c : LineCall) (made : X → LineCall)
      (told : Result X ℕ) (answer : Result LineCall ℕ)
      → after.bytes.now ≡ drop 1 line
      → after.column ≡ 2
      → byte ≡ letter c
      → ((x : X) → letter (made x) ≡ letter c)
      → Reads (length (numbers c)) (λ x. numbers (made x)) after.bytes.now after.column told
      → MatchResult told (λ x. IsOkAnd answer (Made x)) (λ e. answer ≡ Err e)
      → ((x : X) (d : LineCall) → Made x d → d ≡ made x)
      → Answers deciding line answer
  answers_made after c made (Ok x) (Ok d) left second same letters spaced is makes =
      rw (makes x d is) (answers_call after left (made x) (same ∙ sym (letters x)) spaced)
  answers_made after c made (Ok x) (Err at) left second same letters spaced is makes = absurd is
  answers_made after c made (Err at) answer left second same letters stops is makes =
      rw is (answers_column after left c same second stops)
