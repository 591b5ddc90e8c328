use Rattle.std.proofs.Common.{◌≡◌, ◌+◌, ◌≤◌, length, ap, ◌∙◌, ap₂, arith, rules}
use Rattle.plan.specs.Content.{content}
use Rattle.plan.proofs.Fitting.{plan_fits}
use Rattle.sheet.specs.Format.{closure_layout, head_values, head_widths, segment_layout, settings_layout}
use Rattle.sheet.specs.Records.{packed, written, written_all}
use Rattle.sheet.specs.Writes.{over}
use Rattle.sheet.proofs.Layouts.{closure_faithful, segment_faithful}
use Rattle.sheet.proofs.RecordLists.{length_written_all}
use Rattle.sheet.proofs.RoundTrips.{length_encode}
use Rattle.sheet.proofs.Writings.{sheet_written}
use Rattle.sheet.proofs.writing.write.Goals as goal

pub returns-then-memory-size : goal.returns-then-memory-size
returns-then-memory-size c =
    let plan = content c.args.plan.now in
    let size = length_encode plan (plan_fits c.args.plan.now) in
    record { short = omega (arith, size); said = search rules; untouched = search rules }

pub put_all-closures_start-requires : goal.put_all-closures_start-requires
put_all-closures_start-requires c =
    let plan = content c.args.plan.now in
    let long = length_written_all segment_layout segment_faithful plan.segments in
    let same = ap (λ gs. length (written_all segment_layout gs)) c.segments.ensures in
    omega (arith, long, same)

pub put_all-end-requires : goal.put_all-end-requires
put_all-end-requires c =
    let plan = content c.args.plan.now in
    let segments_long = length_written_all segment_layout segment_faithful plan.segments in
    let segments_same = ap (λ gs. length (written_all segment_layout gs)) c.segments.ensures in
    let closures_long = length_written_all closure_layout closure_faithful plan.closures in
    let closures_same = ap (λ ks. length (written_all closure_layout ks)) c.closures.ensures in
    omega (arith, segments_long, segments_same, closures_long, closures_same)

pub returns : goal.returns
returns c =
    let plan = content c.args.plan.now in
    let segments_same = ap (written_all segment_layout) c.segments.ensures in
    let closures_same = ap (written_all closure_layout) c.closures.ensures in
    let segments_long = length_written_all segment_layout segment_faithful plan.segments in
    let closures_long = length_written_all closure_layout closure_faithful plan.closures in
    let memory = c.args.memory.now in
    let after_head = c.put_head-settings_start.new.memory in
    let after_settings = c.put-segments_start.new.memory in
    let after_segments = c.put_all-closures_start.new.memory in
    let settings_place : c.put_head-settings_start.result ≡ 26 = c.put_head-settings_start.ensures.behind in
    let segments_place : c.put-segments_start.result ≡ 33 = omega arith in
    let closures_place : c.put_all-closures_start.result ≡ 33 + length (written_all segment_layout plan.segments) =
    omega (arith, ap length segments_same) in
    let head_put = c.put_head-settings_start.ensures.written
    ∙ ap₂ (λ n m. over memory 0 (packed head_widths (head_values n m)))
    c.segment_count-segments.ensures c.closure_count-closures.ensures in
    let settings_put = c.put-segments_start.ensures.written
    ∙ ap₂ (over after_head) settings_place (c.bytes.ensures ∙ ap (written settings_layout) c.settings.ensures.value) in
    let segments_put = c.put_all-closures_start.ensures.written
    ∙ ap₂ (over after_settings) segments_place segments_same in
    let closures_put = c.put_all-end.ensures.written
    ∙ ap₂ (over after_segments) closures_place closures_same in
    let room : 33 + length (written_all segment_layout plan.segments) + length (written_all closure_layout plan.closures)
    ≤ length memory = omega (arith, segments_long, closures_long) in
    sheet_written plan memory after_head after_settings after_segments c.put_all-end.new.memory
    head_put settings_put segments_put closures_put room c.put_all-end.result (plan_fits c.args.plan.now)
    (omega (arith, closures_place, ap length closures_same))
