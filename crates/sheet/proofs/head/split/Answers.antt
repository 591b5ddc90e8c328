use Rattle.std.proofs.Common.{◌≡◌, Some, None, sym, ap, ◌∙◌, subst}
use Rattle.std.proofs.lemmas.Result.{err_from_is_err_and}
use Rattle.plan.specs.Rules.{first_broken}
use Rattle.plan.proofs.Ruling.{all_kept}
use Rattle.sheet.specs.Format.{closures_pair, section, segments_pair, settings_layout, settings_pair}
use Rattle.sheet.specs.Laid.{Laid}
use Rattle.sheet.specs.Records.{told}
use Rattle.sheet.specs.Verdict.{extent_rules, head_rules, pair_rules}
use Rattle.sheet.proofs.Faults.{passed_none, passed_some}
use Rattle.sheet.proofs.Heads.{extents_decide, format_found, laid_from_rules, order_found}
use Rattle.sheet.proofs.ReadNumbers.{under_typed}
use Rattle.sheet.proofs.head.split.Goals as goal

pub returns-in_err-head : goal.returns-in_err-head
returns-in_err-head c =
    let fault = c.in_err-head.field-0.0 in
    let error = err_from_is_err_and c.from_residual.result c.from_residual.ensures.1 in
    rw (error.1, error.2) (format_found c.args.bytes.now fault c.in_err-head.ensures.fault)

pub returns-in_err-check_order : goal.returns-in_err-check_order
returns-in_err-check_order c =
    let bytes = c.args.bytes.now in
    let fault = c.in_err-check_order.field-0.0 in
    let same = c.in_ok-head.ensures.bytes in
    let found : first_broken (pair_rules bytes) ≡ Some fault =
    ap (λ bs. first_broken (pair_rules bs)) (sym same) ∙ passed_some _ fault (sym c.in_err-check_order.ensures) in
    let result = c.from_residual-in_err-check_order.result in
    let error = err_from_is_err_and result c.from_residual-in_err-check_order.ensures.1 in
    rw (error.1, error.2) (order_found bytes c.in_ok-head.ensures.sound fault found)

pub returns-in_err-check_extents : goal.returns-in_err-check_extents
returns-in_err-check_extents c =
    let bytes = c.args.bytes.now in
    let fault = c.in_err-check_extents.field-0.0 in
    let same = c.in_ok-head.ensures.bytes in
    let order : first_broken (pair_rules bytes) ≡ None =
    ap (λ bs. first_broken (pair_rules bs)) (sym same) ∙ passed_none _ (sym c.in_ok-check_order.ensures) in
    let found : first_broken (extent_rules bytes) ≡ Some fault =
    ap (λ bs. first_broken (extent_rules bs)) (sym same) ∙ passed_some _ fault (sym c.in_err-check_extents.ensures) in
    let result = c.from_residual-in_err-check_extents.result in
    let error = err_from_is_err_and result c.from_residual-in_err-check_extents.ensures.1 in
    rw (error.1, error.2) (extents_decide bytes c.in_ok-head.ensures.sound order ∙ found)

pub cut-requires : goal.cut-requires
cut-requires c =
    let bytes = c.args.bytes.now in
    let same = c.in_ok-head.ensures.bytes in
    let order : first_broken (pair_rules bytes) ≡ None =
    ap (λ bs. first_broken (pair_rules bs)) (sym same) ∙ passed_none _ (sym c.in_ok-check_order.ensures) in
    let extents : first_broken (extent_rules bytes) ≡ None =
    ap (λ bs. first_broken (extent_rules bs)) (sym same) ∙ passed_none _ (sym c.in_ok-check_extents.ensures) in
    let none = extents_decide bytes c.in_ok-head.ensures.sound order ∙ extents in
    subst Laid (sym same) (laid_from_rules bytes (all_kept (head_rules bytes) none))

pub returns : goal.returns
returns c =
    let bytes = c.args.bytes.now in
    let same = c.in_ok-head.ensures.bytes in
    let order : first_broken (pair_rules bytes) ≡ None =
    ap (λ bs. first_broken (pair_rules bs)) (sym same) ∙ passed_none _ (sym c.in_ok-check_order.ensures) in
    let extents : first_broken (extent_rules bytes) ≡ None =
    ap (λ bs. first_broken (extent_rules bs)) (sym same) ∙ passed_none _ (sym c.in_ok-check_extents.ensures) in
    let cut = c.cut.ensures in
    record {
      in_order = extents_decide bytes c.in_ok-head.ensures.sound order ∙ extents;
      settings = cut.settings ∙ ap (λ bs. told settings_layout (section settings_pair bs)) same;
      segments = cut.segments ∙ ap (section segments_pair) same;
      closures = cut.closures ∙ ap (section closures_pair) same;
      few_segments = cut.few_segments;
      few_closures = cut.few_closures;
      bytes_fit = under_typed bytes c.type_inv.bytes;
    }
