use Rattle.std.proofs.Common.{sym, ◌∙◌, arith}
use Rattle.layer_cases.proofs.Rows.{no_other_segment, past_the_horizon, room_decides}
use Rattle.layer_cases.proofs.row.booked.RowBookBook.admissible.Goals as goal
use Rattle.layer_cases.proofs.row.booked.RowBookBook.admissible.Goals.{then-leg-ne0-via-then-leg-ne0, then-leg-ne0-via-else-leg-ne0+then-leg-self-gt20}

pub returns-then-leg-ne0 : goal.returns-then-leg-ne0
returns-then-leg-ne0 c =
    let b = c.args.self.now in
    let l = c.args.leg in
    elim c.then-leg-ne0.branch [ then-leg-ne0-via-then-leg-ne0 w ↦ sym (no_other_segment b.slots b.limit b.row l (λ first. omega arith)) | then-leg-ne0-via-else-leg-ne0+then-leg-self-gt20 w ↦ sym (past_the_horizon b.slots b.limit b.row l (omega arith) (omega arith)) ]

pub returns : goal.returns
returns c =
    let b = c.args.self.now in
    c.has_room.ensures ∙ sym (room_decides b.slots b.limit b.row c.args.leg (omega arith) (omega arith))
