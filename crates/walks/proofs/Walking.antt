-- Walks put together and taken apart, and the earliest slot at which a junction is reached.
use Rattle.std.proofs.Common.{◌≡◌, ℕ, ◌≤◌, true, List, [], ◌∷◌, ◌++◌, sym, refl, ◌∙◌, arith}
use Rattle.book.specs.Loads.{admissible}
use Rattle.book.specs.Meaning.{Meaning}
use Rattle.book.specs.declared.legs.Leg.{Leg}
use Rattle.walks.specs.Walks.{Earliest, Takes, Walk, end_of, from, to}

module _ (m : Meaning) where
  -- one more leg at the end
  pub walk_push : (o t v a : ℕ) (ls : List Leg) (l : Leg)
      → Walk m o t v a ls → Takes m v a l → Walk m o t (to m l.segment) (end_of m l) (ls ++ l ∷ [])
  walk_push o t v a [] l walk takes =
      (record { fits = takes.fits; starts = takes.starts ∙ sym walk.0; waits = omega arith }, (refl, refl))
  walk_push o t v a (k ∷ ls) l walk takes =
      (walk.0, walk_push (to m k.segment) (end_of m k) v a ls l walk.1 takes)

  -- a walk ends no earlier than it may begin
  pub walk_later : (o t v a : ℕ) (ls : List Leg) → Walk m o t v a ls → t ≤ a
  walk_later o t v a [] walk = omega arith
  walk_later o t v a (l ∷ ls) walk =
      let rest = walk_later (to m l.segment) (end_of m l) v a ls walk.1 in
      omega arith

  -- a walk with some leg is a walk and its last leg
  pub record LastOff (o t v a : ℕ) : Type 0 where
    pub front : List Leg
    pub at : ℕ
    pub last : Leg
    pub walk : Walk m o t (from m last.segment) at front
    pub fits : admissible m last ≡ true
    pub waits : at ≤ last.entry
    pub ends : to m last.segment ≡ v
    pub arrives : end_of m last ≡ a

  pub last_off : (o t v a : ℕ) (l : Leg) (ls : List Leg) → Walk m o t v a (l ∷ ls) → LastOff o t v a
  last_off o t v a l [] walk = record {
    front = [];
    at = t;
    last = l;
    walk = (sym walk.0.starts, refl);
    fits = walk.0.fits;
    waits = walk.0.waits;
    ends = walk.1.0;
    arrives = walk.1.1;
  }
  last_off o t v a l (k ∷ ls) walk =
      let rest = last_off (to m l.segment) (end_of m l) v a k ls walk.1 in
      record {
        front = l ∷ rest.front;
        at = rest.at;
        last = rest.last;
        walk = (walk.0, rest.walk);
        fits = rest.fits;
        waits = rest.waits;
        ends = rest.ends;
        arrives = rest.arrives;
      }

  -- E is one slot
  pub earliest_unique : (o t v a b : ℕ) → Earliest m o t v a → Earliest m o t v b → a ≡ b
  earliest_unique o t v a b p q =
      omega (arith, p.least b q.legs q.walk, q.least a p.legs p.walk)

  -- and at the origin the asked one
  pub earliest_origin : (o t : ℕ) → Earliest m o t o t
  earliest_origin o t =
      record { legs = []; walk = (refl, refl); least = λ b ls walk. walk_later o t o b ls walk }
