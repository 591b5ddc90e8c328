use Rattle.std.proofs.Common.{sym}
use Rattle.std.proofs.lemmas.Result.{err_from_is_err_and}
use Rattle.plan.specs.Content.{content}
use Rattle.sheet.proofs.Faults.{head_found, passed_none, passed_some}
use Rattle.sheet.proofs.Readings.{accepted_as, begin_failed, refused_by, sections_fit}
use Rattle.sheet.proofs.reading.read.Goals as goal

pub returns-in_err-sections : goal.returns-in_err-sections
returns-in_err-sections c =
    let bytes = c.args.bytes.now in
    let fault = c.in_err-sections.field-0.0 in
    let error = err_from_is_err_and c.from_residual.result c.from_residual.ensures.1 in
    rw (error.1, error.2) (refused_by bytes fault (head_found bytes fault c.in_err-sections.ensures))

pub returns-in_err-check_sections : goal.returns-in_err-check_sections
returns-in_err-check_sections c =
    let bytes = c.args.bytes.now in
    let fault = c.in_err-check_sections.field-0.0 in
    let found = passed_some _ fault (sym (c.in_err-check_sections.ensures bytes c.in_ok-sections.ensures)) in
    let result = c.from_residual-in_err-check_sections.result in
    let error = err_from_is_err_and result c.from_residual-in_err-check_sections.ensures.1 in
    rw (error.1, error.2) (refused_by bytes fault found)

pub returns-in_err-plan : goal.returns-in_err-plan
returns-in_err-plan c =
    let bytes = c.args.bytes.now in
    let split = c.in_ok-sections.ensures in
    let none = passed_none _ (sym (c.in_ok-check_sections.ensures bytes split)) in
    let failed = begin_failed bytes c.in_ok-sections.sections split none c.in_err-plan.field-0.0 c.in_err-plan.ensures in
    let result = c.from_residual-in_err-plan.result in
    let error = err_from_is_err_and result c.from_residual-in_err-plan.ensures.1 in
    rw (error.1, error.2) failed

pub fill-requires-clause-fits : goal.fill-requires-clause-fits
fill-requires-clause-fits c =
    let bytes = c.args.bytes.now in
    let split = c.in_ok-sections.ensures in
    sections_fit bytes c.in_ok-sections.sections split
    (passed_none _ (sym (c.in_ok-check_sections.ensures bytes split)))

pub returns : goal.returns
returns c =
    let bytes = c.args.bytes.now in
    let split = c.in_ok-sections.ensures in
    let none = passed_none _ (sym (c.in_ok-check_sections.ensures bytes split)) in
    accepted_as bytes c.in_ok-sections.sections split none (content c.fill.new.plan) c.fill.ensures.after
