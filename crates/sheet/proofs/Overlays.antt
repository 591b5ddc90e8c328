-- Bytes written over a memory.
use Rattle.std.proofs.Common.{◌≡◌, ℕ, ◌+◌, ◌<◌, ◌≤◌, List, [], ◌∷◌, ◌++◌, length, get_or, take, drop, sym, refl, ap, ◌∙◌, ap₂, add-zero, arith}
use Rattle.std.proofs.lemmas.List.{append_assoc, append-nil, drop_at, drop-drop, length-append, length-take-le, take_all, take-append-drop, take_at, take_more}
use Rattle.std.specs.List.{flat_map}
use Rattle.sheet.specs.Writes.{over}

pub over_none : (memory : List ℕ) (place : ℕ) → over memory place [] ≡ memory
unfolding over
over_none memory place =
    ap (λ n. take place memory ++ drop n memory) (add-zero place) ∙ take-append-drop place memory

-- written one after the other
pub over_over : (memory : List ℕ) (place : ℕ) (first second : List ℕ)
    → place + length first + length second ≤ length memory
    → over (over memory place first) (place + length first) second ≡ over memory place (first ++ second)
unfolding over
over_over memory place first second within =
    let start = take place memory in
    let end = drop (place + length first) memory in
    let start_long : length start ≡ place = length-take-le place memory (omega arith) in
    let regrouped : start ++ (first ++ end) ≡ (start ++ first) ++ end = sym (append_assoc start first end) in
    let both_long : length (start ++ first) ≡ place + length first =
    length-append start first ∙ ap (λ n. n + length first) start_long in
    let front : take (place + length first) (start ++ (first ++ end)) ≡ start ++ first =
    ap (take (place + length first)) regrouped ∙ take_at (start ++ first) end (place + length first) both_long in
    let back : drop (place + length first + length second) (start ++ (first ++ end))
    ≡ drop (place + length (first ++ second)) memory =
    sym (drop-drop (length second) (place + length first) (start ++ (first ++ end)))
    ∙ ap (drop (length second))
    (ap (drop (place + length first)) regrouped ∙ drop_at (start ++ first) end (place + length first) both_long)
    ∙ drop-drop (length second) (place + length first) memory
    ∙ ap (λ n. drop n memory) (omega (arith, length-append first second)) in
    ap₂ (λ xs ys. xs ++ (second ++ ys)) front back
    ∙ append_assoc start first (second ++ drop (place + length (first ++ second)) memory)
    ∙ ap (λ ys. start ++ ys) (sym (append_assoc first second (drop (place + length (first ++ second)) memory)))

-- the bytes of a list's elements, one after the other
module _ {X : Type 0} (bytes_of : X → List ℕ) where
  joined_append : (xs ys : List X) → flat_map bytes_of (xs ++ ys) ≡ flat_map bytes_of xs ++ flat_map bytes_of ys
  joined_append [] ys = refl
  joined_append (x ∷ xs) ys =
      ap (λ bs. bytes_of x ++ bs) (joined_append xs ys)
      ∙ sym (append_assoc (bytes_of x) (flat_map bytes_of xs) (flat_map bytes_of ys))

  joined_next : (xs : List X) (k : ℕ) (d : X) → k < length xs
      → flat_map bytes_of (take (k + 1) xs) ≡ flat_map bytes_of (take k xs) ++ bytes_of (get_or xs k d)
  joined_next xs k d within =
      ap (flat_map bytes_of) (take_more xs k d within)
      ∙ joined_append (take k xs) (get_or xs k d ∷ [])
      ∙ ap (λ bs. flat_map bytes_of (take k xs) ++ bs) (append-nil (bytes_of (get_or xs k d)))

-- the first k elements have been written from a start on, and a place is behind them
pub record Laying {X : Type 0} (bytes_of : X → List ℕ) (xs : List X) (before : List ℕ) (start k : ℕ) (memory : List ℕ)
    (place : ℕ) : Type 0 where
  pub bytes : memory ≡ over before start (flat_map bytes_of (take k xs))
  pub behind : place ≡ start + length (flat_map bytes_of (take k xs))

pub laying_none : {X : Type 0} (bytes_of : X → List ℕ) (xs : List X) (before : List ℕ) (start : ℕ)
    → Laying bytes_of xs before start 0 before start
laying_none bytes_of xs before start = record { bytes = sym (over_none before start); behind = sym (add-zero start) }

next_room : {X : Type 0} (bytes_of : X → List ℕ) (xs : List X) (before : List ℕ) (start k : ℕ) (d : X)
    → k < length xs → start + length (flat_map bytes_of xs) ≤ length before
    → start + length (flat_map bytes_of (take k xs)) + length (bytes_of (get_or xs k d)) ≤ length before
next_room bytes_of xs before start k d within room =
    let next = ap length (joined_next bytes_of xs k d within) in
    let parts = length-append (flat_map bytes_of (take k xs)) (bytes_of (get_or xs k d)) in
    let split = ap (λ ys. length (flat_map bytes_of ys)) (sym (take-append-drop (k + 1) xs)) in
    let whole = ap length (joined_append bytes_of (take (k + 1) xs) (drop (k + 1) xs)) in
    let sum = length-append (flat_map bytes_of (take (k + 1) xs)) (flat_map bytes_of (drop (k + 1) xs)) in
    omega (arith, next, parts, split, whole, sum)

-- the next element has room
pub laying_room : {X : Type 0} {bytes_of : X → List ℕ} {xs : List X} {before : List ℕ} {start k : ℕ} {memory : List ℕ}
    {place : ℕ} (d : X) → k < length xs → start + length (flat_map bytes_of xs) ≤ length before
    → Laying bytes_of xs before start k memory place → place + length (bytes_of (get_or xs k d)) ≤ length before
laying_room {bytes_of = bytes_of} {xs = xs} {before = before} {start = start} {k = k} d within room laying =
    let behind = laying.behind in omega (arith, next_room bytes_of xs before start k d within room)

pub laying_next : {X : Type 0} {bytes_of : X → List ℕ} {xs : List X} {before : List ℕ} {start k : ℕ} {memory : List ℕ}
    {place : ℕ} (d : X) → k < length xs → start + length (flat_map bytes_of xs) ≤ length before
    → Laying bytes_of xs before start k memory place
    → {after : List ℕ} {behind : ℕ} → after ≡ over memory place (bytes_of (get_or xs k d))
    → behind ≡ place + length (bytes_of (get_or xs k d)) → Laying bytes_of xs before start (k + 1) after behind
laying_next {bytes_of = bytes_of} {xs = xs} {before = before} {start = start} {k = k} d within room laying put place_behind =
    let first = flat_map bytes_of (take k xs) in
    let second = bytes_of (get_or xs k d) in
    record {
      bytes =
          put
          ∙ ap₂ (λ m p. over m p second) laying.bytes laying.behind
          ∙ over_over before start first second (next_room bytes_of xs before start k d within room)
          ∙ ap (over before start) (sym (joined_next bytes_of xs k d within));
      behind =
          let next = ap length (joined_next bytes_of xs k d within) in
          let was = laying.behind in
          omega (arith, next, was, length-append first second);
    }

pub laying_all : {X : Type 0} {bytes_of : X → List ℕ} {xs : List X} {before : List ℕ} {start k : ℕ} {memory : List ℕ}
    {place : ℕ} → length xs ≤ k → Laying bytes_of xs before start k memory place
    → (memory ≡ over before start (flat_map bytes_of xs)) × (place ≡ start + length (flat_map bytes_of xs))
laying_all {bytes_of = bytes_of} {xs = xs} {before = before} {start = start} {k = k} all laying =
    let whole = take_all k xs all in (
      laying.bytes ∙ ap (λ ys. over before start (flat_map bytes_of ys)) whole,
      laying.behind ∙ ap (λ ys. start + length (flat_map bytes_of ys)) whole,
    )
