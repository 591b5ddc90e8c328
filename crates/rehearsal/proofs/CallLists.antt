-- The calls of a history, one more at a time.
use Rattle.std.proofs.Common.{◌≡◌, ℕ, ◌+◌, ◌<◌, List, [], ◌∷◌, ◌++◌, map, length, get_or, take, sym, ap, ◌∙◌, ap₂}
use Rattle.std.proofs.lemmas.List.{append_assoc, map-append, map_push, take_more}
use Rattle.bookings.specs.declared.calls.Call.{Call}
use Rattle.bookings.specs.declared.calls.Exchange.{Exchange}
use Rattle.rehearsal.specs.Runs.{lent}

abbrev calls_of : List Exchange → List Call
calls_of xs = map (λ x. x.call) xs

pub calls_push : (n m : ℕ) (before calls : List Call) (i : ℕ) (d : Call) (xs ys : List Exchange) (x : Exchange)
    → i < length calls → calls_of xs ≡ before ++ map (lent n) (take i calls) → ys ≡ xs ++ x ∷ []
    → x.call ≡ lent m (get_or calls i d) → m ≡ n → calls_of ys ≡ before ++ map (lent n) (take (i + 1) calls)
calls_push n m before calls i d xs ys x within made pushed is same =
    let front = take i calls in
    let last = get_or calls i d in
    ap calls_of pushed
    ∙ map_push (λ y. y.call) xs x
    ∙ ap₂ (λ cs c. cs ++ c ∷ []) made (is ∙ ap (λ k. lent k last) same)
    ∙ append_assoc before (map (lent n) front) (lent n last ∷ [])
    ∙ ap (λ cs. before ++ cs) (sym (map_push (lent n) front last))
    ∙ ap (λ cs. before ++ map (lent n) cs) (sym (take_more calls i d within))

-- a list of calls and then another
pub calls_then : (n k l : ℕ) (calls more before middle end : List Call) → before ≡ []
    → middle ≡ before ++ map (lent k) calls → end ≡ middle ++ map (lent l) more → k ≡ n → l ≡ n
    → end ≡ map (lent n) (calls ++ more)
calls_then n k l calls more before middle end none first second same also =
    second
    ∙ ap₂ (λ cs i. cs ++ map (lent i) more) (first ∙ ap₂ (λ cs i. cs ++ map (lent i) calls) none same) also
    ∙ sym (map-append (lent n) calls more)
