use Rattle.std.proofs.Common.{refl, arith}
use Rattle.book.specs.Meaning.{total}
use Rattle.layer_cases.proofs.row.RowBook.new.Goals as goal

pub invariant_of-result : goal.invariant_of-result
unfolding total
invariant_of-result c =
    let limit = c.ranges.limit.fits in
    record {
      sized = refl;
      takes = omega arith;
      short = omega arith;
      small = omega arith;
      counted = refl;
      few = omega arith;
    }
