use Rattle.std.proofs.Common.{◌≡◌, Err, None, sym, ap, ◌∙◌, rules}
use Rattle.std.proofs.lemmas.Result.{err_from_is_err_and}
use Rattle.plan.specs.Ranges.{settings_rules}
use Rattle.plan.specs.Rules.{first_broken}
use Rattle.sheet.specs.Format.{segment_layout}
use Rattle.sheet.specs.Records.{told_all}
use Rattle.sheet.specs.Verdict.{closures_rules, passed, segments_rules}
use Rattle.sheet.proofs.Faults.{closures_decide, passed_none, passed_some, segment_found, setting_found}
use Rattle.sheet.proofs.checking.check_sections.Goals as goal

pub returns-in-Some : goal.returns-in-Some
returns-in-Some c = λ bytes split.
    ap Err c.fault_of_setting.ensures
    ∙ sym (ap passed (setting_found bytes c.args.sections split c.in-Some.setting (sym c.in-Some.ensures)))

pub returns-in_err-check_parts : goal.returns-in_err-check_parts
unfolding segments_rules
returns-in_err-check_parts c = λ bytes split.
    let none : first_broken (settings_rules c.args.sections.settings) ≡ None = search rules in
    let fault = c.in_err-check_parts.field-0.0 in
    let found = passed_some _ fault (sym c.in_err-check_parts.ensures) in
    let error = err_from_is_err_and c.from_residual.result c.from_residual.ensures.1 in
    rw (error.1, error.2) (sym (ap passed (segment_found bytes c.args.sections split fault none found)))

pub returns : goal.returns
unfolding segments_rules closures_rules
returns c = λ bytes split.
    let sections = c.args.sections in
    let none : first_broken (settings_rules sections.settings) ≡ None = search rules in
    let sound : first_broken (segments_rules sections.settings 33 (told_all segment_layout sections.segments.now))
    ≡ None = passed_none _ (sym c.in_ok-check_parts.ensures) in
    c.check_parts-2.ensures ∙ sym (ap passed (closures_decide bytes sections split none sound))
