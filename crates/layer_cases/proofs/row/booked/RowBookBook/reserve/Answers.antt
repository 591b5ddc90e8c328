use Rattle.std.proofs.Common.{ltb, sym, ap, ◌∙◌, arith, length-set, rules}
use Rattle.std.proofs.lemmas.Bool.{cond-true, lt-ltb}
use Rattle.book.specs.Loads.{admissible}
use Rattle.book.specs.Meaning.{total}
use Rattle.book.proofs.Loading.{total_counts}
use Rattle.layer_cases.specs.RowBook.{row_of}
use Rattle.layer_cases.proofs.Rows.{admitted_inside, at_most_all, set_more}
use Rattle.layer_cases.proofs.row.booked.RowBookBook.reserve.Goals as goal

pub bounds-self-leg : goal.bounds-self-leg
bounds-self-leg c =
    let b = c.args.self.now in
    (admitted_inside b.slots b.limit b.row c.args.leg b.takes (sym c.if-not-admissible.ensures)).1

pub overflow_add-self : goal.overflow_add-self
overflow_add-self c =
    let b = c.args.self.now in
    let l = c.args.leg in
    let inside = admitted_inside b.slots b.limit b.row l b.takes (sym c.if-not-admissible.ensures) in
    let most = at_most_all b.slots b.limit b.row l inside.0 inside.1 in
    let all = b.counted in
    record { fits = omega arith }

pub bounds-self-leg-2 : goal.bounds-self-leg-2
bounds-self-leg-2 c =
    let b = c.args.self.now in
    (admitted_inside b.slots b.limit b.row c.args.leg b.takes (sym c.if-not-admissible.ensures)).1

pub invariant_of-self : goal.invariant_of-self
invariant_of-self c =
    let b = c.args.self.now in
    let l = c.args.leg in
    let inside = admitted_inside b.slots b.limit b.row l b.takes (sym c.if-not-admissible.ensures) in
    let more = ap total (set_more b.slots b.limit b.row l inside.0 inside.1 b.sized) in
    let counts = total_counts (row_of b) l (omega arith) inside.1 in
    let all = b.counted in
    record {
      sized = length-set b.row l.entry _ ∙ b.sized;
      takes = b.takes;
      short = b.short;
      small = b.small;
      counted = omega arith;
      few = omega arith;
    }

pub returns : goal.returns
returns c =
    let b = c.args.self.now in
    let l = c.args.leg in
    let inside = admitted_inside b.slots b.limit b.row l b.takes (sym c.if-not-admissible.ensures) in
    let all = b.counted in
    record {
      does = record {
        answer =
            sym (cond-true (admissible (row_of b) l) _ _ (sym c.if-not-admissible.ensures)
            ∙ cond-true (ltb (total (row_of b)) 1024) _ _ (lt-ltb (total (row_of b)) 1024 (omega arith)));
        change = set_more b.slots b.limit b.row l inside.0 inside.1 b.sized;
      };
      refused = λ other. absurd (search (other, rules));
    }
