use Rattle.std.proofs.Common.{ap, ◌∙◌}
use Rattle.book.specs.Loads.{load_below}
use Rattle.book.specs.Rows.{entering}
use Rattle.book.proofs.Fitting.{load_by_end}
use Rattle.book.proofs.rows.Row.load.Goals as goal

pub returns : goal.returns
returns c =
    let row = c.args.self.now.entering.now in
    c.entered_by.ensures.value
    ∙ ap (λ n. load_below n (entering row) c.args.self.now.slots c.args.slot) c.min-end.ensures
    ∙ load_by_end row c.args.self.now.slots c.args.slot
