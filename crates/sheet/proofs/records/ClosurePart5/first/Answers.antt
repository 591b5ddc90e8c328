use Rattle.std.proofs.Common.{◌≡◌, ◌<◌, ◌≤◌, ◌∷◌, length, get_or, sym, ap, ◌∙◌, ap₂, arith, rules}
use Rattle.std.proofs.lemmas.List.{length-drop, take_rest}
use Rattle.sheet.specs.Format.{closure_layout}
use Rattle.sheet.specs.Records.{told_all}
use Rattle.sheet.proofs.FirstRecords.{closure_at, first_closure}
use Rattle.sheet.proofs.Layouts.{closure_faithful}
use Rattle.sheet.proofs.RecordLists.{told_all_none}
use Rattle.sheet.proofs.records.ClosurePart5.first.Goals as goal

pub returns-in_default : goal.returns-in_default
returns-in_default c =
    let section = c.args.section.now in
    let short : length section < 5 = search rules in
    (short, told_all_none closure_layout closure_faithful section short)

pub returns-in-len5-up : goal.returns-in-len5-up
returns-in-len5-up c =
    let section = c.args.section.now in
    let long : 5 ≤ length section = search rules in
    let rest = take_rest section 5 in
    let two : closure_at section ≡ record {
      segment = get_or section 0 0;
      first = c.from_be_bytes.result;
      end = c.from_be_bytes-in-len5-up.result;
    } = λ i. record {
      segment = get_or section 0 0;
      first = sym c.from_be_bytes.ensures i;
      end = sym c.from_be_bytes-in-len5-up.ensures i;
    } in (
      omega (arith, ap length rest, length-drop 5 section),
      first_closure section long ∙ ap₂ ◌∷◌ two (ap (told_all closure_layout) (sym rest)),
    )
