use Rattle.sheet.specs.Records.{written}
use Rattle.sheet.proofs.Overlays.{Laying}
use Rattle.sheet.proofs.writing.put_all.Given as goal

abbrev pub invariant-loop-record : goal.invariant-loop-record
invariant-loop-record g l =
    Laying (written g.R.Record.layout) l.records l.initial.memory l.start l.record-index l.memory l.place
