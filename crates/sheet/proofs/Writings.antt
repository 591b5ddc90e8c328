-- The parts of a sheet, written one after the other, are the sheet.
use Rattle.std.proofs.Common.{◌≡◌, ℕ, ◌+◌, ◌≤◌, List, ◌++◌, length, take, drop, sym, ap, ◌∙◌, ap₂, zero-add, arith}
use Rattle.std.proofs.lemmas.List.{append_assoc, length-append, take_at}
use Rattle.plan.specs.Content.{Content, Fits}
use Rattle.sheet.specs.Format.{closure_layout, encode, head_values, head_widths, segment_layout, settings_layout}
use Rattle.sheet.specs.Records.{packed, written, written_all}
use Rattle.sheet.specs.Verdict.{verdict}
use Rattle.sheet.specs.Writes.{Written, over}
use Rattle.sheet.proofs.Layouts.{closure_faithful, segment_faithful}
use Rattle.sheet.proofs.Overlays.{over_over}
use Rattle.sheet.proofs.RecordLists.{length_written_all}
use Rattle.sheet.proofs.RoundTrips.{encode_accepted, length_encode}

over_start : (memory bytes : List ℕ) → over memory 0 bytes ≡ bytes ++ drop (length bytes) memory
unfolding over
over_start memory bytes = ap (λ n. bytes ++ drop n memory) (zero-add (length bytes))

module _ (c : Content) where
  head : List ℕ
  head = packed head_widths (head_values (length c.segments) (length c.closures))

  settings : List ℕ
  settings = written settings_layout c.settings

  segments : List ℕ
  segments = written_all segment_layout c.segments

  closures : List ℕ
  closures = written_all closure_layout c.closures

  whole : ((head ++ settings) ++ segments) ++ closures ≡ encode c
  unfolding encode head settings segments closures
  whole =
      append_assoc (head ++ settings) segments closures ∙ append_assoc head settings (segments ++ closures)

  module _ (memory after_head after_settings after_segments after : List ℕ)
      (head_put : after_head ≡ over memory 0 (packed head_widths (head_values (length c.segments) (length c.closures))))
      (settings_put : after_settings ≡ over after_head 26 (written settings_layout c.settings))
      (segments_put : after_segments ≡ over after_settings 33 (written_all segment_layout c.segments))
      (closures_put : after ≡ over after_segments (33 + length (written_all segment_layout c.segments))
      (written_all closure_layout c.closures))
      (room : 33 + length (written_all segment_layout c.segments) + length (written_all closure_layout c.closures)
      ≤ length memory) where
    sheet_put : after ≡ over memory 0 (encode c)
    unfolding head settings segments closures
    sheet_put =
        let first : after_settings ≡ over memory 0 (head ++ settings) =
        settings_put ∙ ap (λ m. over m 26 settings) head_put ∙ over_over memory 0 head settings (omega arith) in
        let second : after_segments ≡ over memory 0 ((head ++ settings) ++ segments) =
        segments_put ∙ ap (λ m. over m 33 segments) first
        ∙ over_over memory 0 (head ++ settings) segments (omega arith) in
        let front : List ℕ = (head ++ settings) ++ segments in
        let behind : 33 + length segments ≡ 0 + length front =
        omega (arith, length-append (head ++ settings) segments) in
        closures_put
        ∙ ap₂ (λ m p. over m p closures) second behind
        ∙ over_over memory 0 front closures (omega (arith, behind))
        ∙ ap (over memory 0) whole

    pub sheet_written : (count : ℕ) → Fits c
        → count ≡ 33 + length (written_all segment_layout c.segments) + length (written_all closure_layout c.closures)
        → Written c memory count after
    sheet_written count fits counted =
        let size = length_encode c fits in
        let segments_long = length_written_all segment_layout segment_faithful c.segments in
        let closures_long = length_written_all closure_layout closure_faithful c.closures in
        let long : count ≡ length (encode c) = omega (arith, size, segments_long, closures_long) in
        let bytes : after ≡ encode c ++ drop count memory =
        sheet_put ∙ over_start memory (encode c) ∙ ap (λ n. encode c ++ drop n memory) (sym long) in
        record {
          whole = long;
          within = omega arith;
          bytes = bytes;
          reads_back =
              ap verdict (ap (take count) bytes ∙ take_at (encode c) (drop count memory) count (sym long))
              ∙ encode_accepted c fits;
        }
