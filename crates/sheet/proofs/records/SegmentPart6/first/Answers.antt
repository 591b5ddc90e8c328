use Rattle.std.proofs.Common.{◌≡◌, ◌<◌, ◌≤◌, ◌∷◌, length, get_or, sym, ap, ◌∙◌, ap₂, arith, rules}
use Rattle.std.proofs.lemmas.List.{length-drop, take_rest}
use Rattle.sheet.specs.Format.{segment_layout}
use Rattle.sheet.specs.Records.{told_all}
use Rattle.sheet.proofs.FirstRecords.{segment_at, first_segment}
use Rattle.sheet.proofs.Layouts.{segment_faithful}
use Rattle.sheet.proofs.RecordLists.{told_all_none}
use Rattle.sheet.proofs.records.SegmentPart6.first.Goals as goal

pub returns-in_default : goal.returns-in_default
returns-in_default c =
    let section = c.args.section.now in
    let short : length section < 6 = search rules in
    (short, told_all_none segment_layout segment_faithful section short)

pub returns-in-len6-up : goal.returns-in-len6-up
returns-in-len6-up c =
    let section = c.args.section.now in
    let long : 6 ≤ length section = search rules in
    let rest = take_rest section 6 in
    let two : segment_at section ≡ record {
      start = get_or section 0 0;
      end = get_or section 1 0;
      length = c.from_be_bytes.result;
      lanes = get_or section 4 0;
      class = get_or section 5 0;
    } = λ i. record {
      start = get_or section 0 0;
      end = get_or section 1 0;
      length = sym c.from_be_bytes.ensures i;
      lanes = get_or section 4 0;
      class = get_or section 5 0;
    } in (
      omega (arith, ap length rest, length-drop 6 section),
      first_segment section long ∙ ap₂ ◌∷◌ two (ap (told_all segment_layout) (sym rest)),
    )
