use Rattle.std.proofs.Common.{ℕ, ◌+◌, ◌*◌, List, [], ◌∷◌, length, ap, ◌∙◌, ap₂, arith}
use Rattle.sheet.specs.Format.{number_layout}
use Rattle.sheet.specs.Records.{written_all}
use Rattle.sheet.specs.Writes.{over}
use Rattle.sheet.proofs.Overlays.{over_over}
use Rattle.sheet.proofs.writing.put_head.Goals as goal

pub returns : goal.returns
returns c =
    let segments = c.args.segments in
    let pairs : List ℕ = written_all number_layout
    (26 ∷ 7 ∷ 33 ∷ (6 * segments) ∷ (33 + 6 * segments) ∷ (5 * c.args.closures) ∷ []) in
    record {
      written =
          c.put_all.ensures.written
          ∙ ap₂ (λ memory place. over memory place pairs) c.put-place.ensures.written c.put-place.ensures.behind
          ∙ over_over c.args.memory.now 0 (1 ∷ 3 ∷ []) pairs (omega arith);
      behind = c.put_all.ensures.behind ∙ ap (λ place. place + length pairs) c.put-place.ensures.behind;
    }
