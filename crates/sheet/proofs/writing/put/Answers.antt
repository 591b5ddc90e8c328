use Rattle.std.proofs.Common.{◌≡◌, ◌+◌, ◌-◌, ◌++◌, length, take, drop, refl, ap, ◌∙◌, ap₂, arith}
use Rattle.std.proofs.lemmas.List.{drop-drop}
use Rattle.sheet.specs.Writes.{over}
use Rattle.sheet.proofs.writing.put.Goals as goal

pub returns : goal.returns
unfolding over
returns c =
    let memory = c.args.memory.now in
    let place = c.args.place in
    let bytes = c.args.bytes.now in
    let long : place + length bytes - place ≡ length bytes = omega arith in
    record {
      written =
          ap₂ (λ n ys. take place memory ++ (ys ++ drop n (drop place memory))) long c.copy_from_slice.ensures.after
          ∙ ap (λ ys. take place memory ++ (bytes ++ ys)) (drop-drop (length bytes) place memory);
      behind = refl;
    }
