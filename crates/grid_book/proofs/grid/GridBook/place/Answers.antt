use Rattle.std.proofs.Common.{◌≡◌, ℕ, ◌+◌, ◌*◌, ◌<◌, Bool, true, false, ◌&&◌, ltb, List, length, sym, subst, ap, arith}
use Rattle.std.proofs.lemmas.Bool.{and_parts, leb-true, ltb-true}
use Rattle.std.specs.Bool.{then_some}
use Rattle.std.specs.Option.{MatchOption}
use Rattle.book.proofs.Bottoms.{Keeps}
use Rattle.book.specs.Bottom.{keeps_at}
use Rattle.book.specs.Meaning.{Shown}
use Rattle.book.specs.ShownPlan.{shown_of}
use Rattle.book.specs.declared.legs.Sizes.{Sizes}
use Rattle.grid_book.specs.Grid.{bytes_of, suffices}
use Rattle.grid_book.proofs.Cells.{place_within}
use Rattle.grid_book.proofs.grid.GridBook.place.Goals as goal

placed : (s : Shown) (cells : List ℕ) (i e p : ℕ) → p ≡ i * s.horizon + e
    → (told : Bool) → told ≡ keeps_at s (suffices s cells) i e
    → MatchOption (then_some told p) (keeps_at s (suffices s cells) i e ≡ false)
    (λ place. (place < length cells) × (place ≡ i * s.horizon + e) × Keeps s (suffices s cells) i e)
placed s cells i e p is false told = sym told
placed s cells i e p is true told =
    let memory = and_parts (suffices s cells) (ltb i (length s.roads) && ltb e s.horizon) (sym told) in
    let plan = and_parts (ltb i (length s.roads)) (ltb e s.horizon) memory.1 in
    let at : Keeps s (suffices s cells) i e = record {
      keeps = memory.0;
      known = ltb-true i (length s.roads) plan.0;
      within = ltb-true e s.horizon plan.1;
    } in (
      omega (
        arith,
        is,
        leb-true (bytes_of s) (length cells) at.keeps,
        place_within s.horizon (length s.roads) i e at.known at.within,
      ),
      is,
      at,
    )

pub returns : goal.returns
returns c =
    let b = c.args.self.now in
    let s = shown_of b.plan in
    let l = c.args.leg in
    subst
    (λ r. MatchOption r (keeps_at s (suffices s b.cells.now) l.segment l.entry ≡ false)
    (λ place. (place < length b.cells.now) × (place ≡ l.segment * s.horizon + l.entry)
    × Keeps s (suffices s b.cells.now) l.segment l.entry))
    (sym c.then_some.ensures)
    (placed s b.cells.now l.segment l.entry _ (ap (λ (z : Sizes). l.segment * z.horizon + l.entry) c.sizes-sizes.ensures) _
    c.keeps.ensures)
