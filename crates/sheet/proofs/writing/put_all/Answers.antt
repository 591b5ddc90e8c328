use Rattle.std.proofs.Common.{◌+◌, length, ap, ◌∙◌, arith}
use Rattle.sheet.specs.Records.{written}
use Rattle.sheet.specs.Writes.{over}
use Rattle.sheet.proofs.Overlays.{laying_next, laying_none, laying_room}
use Rattle.sheet.proofs.writing.put_all.Goals as goal

pub loop-record-init : goal.loop-record-init
loop-record-init g c = laying_none (written g.R.Record.layout) c.args.records.now c.args.memory.now c.args.start

pub put-place-requires : goal.put-place-requires
put-place-requires g c =
    let loop = c.loop-record in
    let item = c.record-item.result in
    let room = laying_room item (omega arith) c.requires loop.invariant in
    let same = ap length (c.bytes.ensures ∙ ap (written g.R.Record.layout) c.record-item.is) in
    omega (arith, room, same)

pub loop-record-preserved : goal.loop-record-preserved
loop-record-preserved g c =
    let loop = c.loop-record in
    let item = c.record-item.result in
    let same = c.bytes.ensures ∙ ap (written g.R.Record.layout) c.record-item.is in
    laying_next item (omega arith) c.requires loop.invariant
    (c.put-place.ensures.written ∙ ap (over loop.memory loop.place) same)
    (c.put-place.ensures.behind ∙ ap (λ bytes. loop.place + length bytes) same)
