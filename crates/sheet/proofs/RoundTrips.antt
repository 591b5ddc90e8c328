-- The two round trips: a plan's sheet is accepted as that plan, and an accepted sheet is the sheet of its plan.
use Rattle.std.proofs.Common.{◌≡◌, ℕ, zero, suc, ◌+◌, ◌*◌, ◌/◌, ◌<◌, ◌≤◌, List, [], ◌∷◌, ◌++◌, length, take, drop, None, sym, refl, ap, ◌∙◌, ap₂, arith}
use Rattle.std.proofs.ByRecursion.{All-drop, All-take}
use Rattle.std.proofs.lemmas.List.{append-nil, drop_at, drop-drop, length-append, length-drop, length-map, length-take-le, take_all, take-append-drop, take_at}
use Rattle.std.specs.Int.Digits.{AllBelowBase}
use Rattle.plan.specs.Content.{Content, Fits}
use Rattle.plan.proofs.Ruling.{all_kept, keeps_append, keeps_parts, none_broken}
use Rattle.sheet.specs.Format.{closure_layout, closures_pair, decode, encode, extent, head_values, head_widths, offset, section, segment_layout, segments_pair, settings_layout, settings_pair}
use Rattle.sheet.specs.Laid.{Laid}
use Rattle.sheet.specs.Numbers.{field}
use Rattle.sheet.specs.Records.{Layout, packed, rows, rows_by, size, told, told_all, unpacked, written, written_all}
use Rattle.sheet.specs.Verdict.{accepted, content_rules, head_rules, judged, sheet_fault, verdict}
use Rattle.sheet.proofs.BigEndian.{number_big_endian}
use Rattle.sheet.proofs.Contents.{content_fits, content_keeps}
use Rattle.sheet.proofs.Heads.{laid_from_rules, rules_from_laid}
use Rattle.sheet.proofs.Layouts.{closure_faithful, closures_narrow, segment_faithful, segments_narrow, settings_faithful, settings_narrow}
use Rattle.sheet.proofs.Packing.{packed_unpacked}
use Rattle.sheet.proofs.RecordLists.{length_written_all, told_all_written, told_written, written_all_told, written_told}

-- ---- from a plan to its sheet and back

module _ (c : Content) (fits : Fits c) where
  segments_bytes : List ℕ
  segments_bytes = written_all segment_layout c.segments

  closures_bytes : List ℕ
  closures_bytes = written_all closure_layout c.closures

  length_segments_bytes : length segments_bytes ≡ 6 * length c.segments
  unfolding segments_bytes
  length_segments_bytes = length_written_all segment_layout segment_faithful c.segments

  length_closures_bytes : length closures_bytes ≡ 5 * length c.closures
  unfolding closures_bytes
  length_closures_bytes = length_written_all closure_layout closure_faithful c.closures

  -- what the head of the sheet says
  segments_extent : extent segments_pair (encode c) ≡ 6 * length c.segments
  unfolding encode
  segments_extent = number_big_endian 4 (6 * length c.segments) (let h = fits.few_segments in omega arith)

  closures_offset : offset closures_pair (encode c) ≡ 33 + 6 * length c.segments
  unfolding encode
  closures_offset = number_big_endian 4 (33 + 6 * length c.segments) (let h = fits.few_segments in omega arith)

  closures_extent : extent closures_pair (encode c) ≡ 5 * length c.closures
  unfolding encode
  closures_extent = number_big_endian 4 (5 * length c.closures) (let h = fits.few_closures in omega arith)

  pub length_encode : length (encode c) ≡ 33 + 6 * length c.segments + 5 * length c.closures
  unfolding encode segments_bytes closures_bytes
  length_encode =
      let both = length-append segments_bytes closures_bytes in
      omega (arith, both, length_segments_bytes, length_closures_bytes)

  pub encode_laid : Laid (encode c)
  unfolding encode
  encode_laid =
      let few = fits.few_segments in
      let few' = fits.few_closures in
      record {
        head_whole = omega (arith, length_encode);
        format = refl;
        sections = refl;
        settings_offset = refl;
        settings_extent = refl;
        segments_offset = refl;
        segments_whole = omega (arith, segments_extent);
        segments_few = omega (arith, segments_extent);
        closures_offset = omega (arith, closures_offset, segments_extent);
        closures_whole = omega (arith, closures_extent);
        closures_few = omega (arith, closures_extent);
        end = omega (arith, length_encode, segments_extent, closures_extent);
      }

  settings_section : section settings_pair (encode c) ≡ written settings_layout c.settings
  unfolding encode
  settings_section = refl

  segments_section : section segments_pair (encode c) ≡ written_all segment_layout c.segments
  unfolding encode segments_bytes closures_bytes
  segments_section =
      ap (λ n. take n (segments_bytes ++ closures_bytes)) segments_extent
      ∙ take_at segments_bytes closures_bytes (6 * length c.segments) length_segments_bytes

  closures_start : drop (33 + 6 * length c.segments) (encode c) ≡ written_all closure_layout c.closures
  unfolding encode segments_bytes closures_bytes
  closures_start =
      sym (drop-drop (6 * length c.segments) 33 (encode c))
      ∙ drop_at segments_bytes closures_bytes (6 * length c.segments) length_segments_bytes

  closures_section : section closures_pair (encode c) ≡ written_all closure_layout c.closures
  unfolding closures_bytes
  closures_section =
      let all : length closures_bytes ≤ 5 * length c.closures = omega (arith, length_closures_bytes) in
      ap₂ (λ n m. take n (drop m (encode c))) closures_extent closures_offset
      ∙ ap (take (5 * length c.closures)) closures_start
      ∙ take_all (5 * length c.closures) closures_bytes all

  decoded_settings : told settings_layout (section settings_pair (encode c)) ≡ c.settings
  decoded_settings =
      ap (told settings_layout) (settings_section ∙ sym (append-nil (written settings_layout c.settings)))
      ∙ told_written settings_layout settings_faithful c.settings []
      (settings_narrow c.settings fits.settings_in_range)

  decoded_segments : told_all segment_layout (section segments_pair (encode c)) ≡ c.segments
  decoded_segments =
      ap (told_all segment_layout) segments_section
      ∙ told_all_written segment_layout segment_faithful c.segments
      (segments_narrow c.settings c.segments fits.settings_in_range fits.segments_in_range)

  decoded_closures : told_all closure_layout (section closures_pair (encode c)) ≡ c.closures
  decoded_closures =
      ap (told_all closure_layout) closures_section
      ∙ told_all_written closure_layout closure_faithful c.closures
      (closures_narrow c.settings (length c.segments) c.closures fits.settings_in_range fits.few_segments
      fits.closures_in_range)

  pub decode_encode : decode (encode c) ≡ c
  unfolding decode
  decode_encode =
      λ i. record { settings = decoded_settings i; segments = decoded_segments i; closures = decoded_closures i }

  pub encode_faultless : sheet_fault (encode c) ≡ None
  unfolding sheet_fault
  encode_faultless =
      none_broken (head_rules (encode c) ++ content_rules (encode c) (decode (encode c)))
      (keeps_append (head_rules (encode c)) _
      (rules_from_laid (encode c) encode_laid)
      (rw decode_encode (content_keeps (encode c) c fits)))

  pub encode_accepted : verdict (encode c) ≡ accepted c
  encode_accepted = ap₂ judged encode_faultless decode_encode

-- ---- from a sheet to its plan and back

-- numbers one after the other, each by its place
abbrev fields : List ℕ → ℕ → List ℕ → List ℕ
fields [] place bytes = []
fields (width ∷ widths) place bytes = field width place bytes ∷ fields widths (place + width) bytes

unpacked_fields : (widths : List ℕ) (place : ℕ) (bytes : List ℕ)
    → unpacked widths (drop place bytes) ≡ fields widths place bytes
unpacked_fields [] place bytes = refl
unpacked_fields (width ∷ widths) place bytes =
    ap (λ ns. field width place bytes ∷ ns)
    (ap (unpacked widths) (drop-drop width place bytes) ∙ unpacked_fields widths (place + width) bytes)

length_rows_by : (count width : ℕ) (bytes : List ℕ) → length (rows_by count width bytes) ≡ count
length_rows_by zero width bytes = refl
length_rows_by (suc count) width bytes = ap suc (length_rows_by count width (drop width bytes))

length_told_all : {A : Type 0} (layout : Layout A) (bytes : List ℕ)
    → length (told_all layout bytes) ≡ length bytes / size layout.widths
unfolding rows
length_told_all layout bytes =
    length-map (rows (size layout.widths) bytes) (told layout)
    ∙ length_rows_by (length bytes / size layout.widths) (size layout.widths) bytes

module _ (bytes : List ℕ) (laid : Laid bytes) where
  pub settings_part : section settings_pair bytes ≡ take 7 (drop 26 bytes)
  settings_part = ap₂ (λ n m. take n (drop m bytes)) laid.settings_extent laid.settings_offset

  pub segments_part : section segments_pair bytes ≡ take (extent segments_pair bytes) (drop 33 bytes)
  segments_part = ap (λ m. take (extent segments_pair bytes) (drop m bytes)) laid.segments_offset

  pub closures_part : section closures_pair bytes ≡ drop (33 + extent segments_pair bytes) bytes
  closures_part =
      let start = 33 + extent segments_pair bytes in
      let all : length (drop start bytes) ≤ extent closures_pair bytes =
      let end = laid.end in omega (arith, length-drop start bytes) in
      ap (λ m. take (extent closures_pair bytes) (drop m bytes)) laid.closures_offset
      ∙ take_all (extent closures_pair bytes) (drop start bytes) all

  length_settings_part : length (section settings_pair bytes) ≡ 7
  length_settings_part =
      let long : 7 ≤ length (drop 26 bytes) = let end = laid.end in omega (arith, length-drop 26 bytes) in
      ap length settings_part ∙ length-take-le 7 (drop 26 bytes) long

  pub length_segments_part : length (section segments_pair bytes) ≡ extent segments_pair bytes
  length_segments_part =
      let size = extent segments_pair bytes in
      let long : size ≤ length (drop 33 bytes) = let end = laid.end in omega (arith, length-drop 33 bytes) in
      ap length segments_part ∙ length-take-le size (drop 33 bytes) long

  length_closures_part : length (section closures_pair bytes) ≡ extent closures_pair bytes
  length_closures_part =
      ap length closures_part ∙ length-drop (33 + extent segments_pair bytes) bytes ∙ (let end = laid.end in omega arith)

  pub segments_count : 6 * length (decode bytes).segments ≡ extent segments_pair bytes
  unfolding decode
  segments_count =
      let count = length_told_all segment_layout (section segments_pair bytes) in
      let whole = laid.segments_whole in
      let long = length_segments_part in
      let divided : length (section segments_pair bytes) / 6 ≡ extent segments_pair bytes / 6 = ap (λ n. n / 6) long in
      omega (arith, count, divided)

  pub closures_count : 5 * length (decode bytes).closures ≡ extent closures_pair bytes
  unfolding decode
  closures_count =
      let count = length_told_all closure_layout (section closures_pair bytes) in
      let whole = laid.closures_whole in
      let long = length_closures_part in
      let divided : length (section closures_pair bytes) / 5 ≡ extent closures_pair bytes / 5 = ap (λ n. n / 5) long in
      omega (arith, count, divided)

  head_told : unpacked head_widths bytes ≡ head_values (length (decode bytes).segments) (length (decode bytes).closures)
  head_told =
      unpacked_fields head_widths 0 bytes
      ∙ (λ i. laid.format i ∷ laid.sections i ∷ laid.settings_offset i ∷ laid.settings_extent i ∷ laid.segments_offset i
      ∷ sym segments_count i ∷ (laid.closures_offset ∙ ap (λ n. 33 + n) (sym segments_count)) i ∷ sym closures_count i ∷ [])

  module _ (under : AllBelowBase 256 bytes) where
    under_part : (start count : ℕ) → AllBelowBase 256 (take count (drop start bytes))
    under_part start count = All-take (λ b. b < 256) count (drop start bytes) (All-drop (λ b. b < 256) start bytes under)

    head_again : packed head_widths (head_values (length (decode bytes).segments) (length (decode bytes).closures))
        ≡ take 26 bytes
    head_again =
        ap (packed head_widths) (sym head_told) ∙ packed_unpacked head_widths bytes laid.head_whole under

    settings_again : written settings_layout (decode bytes).settings ≡ take 7 (drop 26 bytes)
    unfolding decode
    settings_again =
        written_told settings_layout settings_faithful (section settings_pair bytes) length_settings_part
        (under_part (offset settings_pair bytes) (extent settings_pair bytes))
        ∙ settings_part

    segments_again : written_all segment_layout (decode bytes).segments ≡ take (extent segments_pair bytes) (drop 33 bytes)
    unfolding decode
    segments_again =
        written_all_told segment_layout segment_faithful (length (decode bytes).segments) (section segments_pair bytes)
        (length_segments_part ∙ sym segments_count)
        (under_part (offset segments_pair bytes) (extent segments_pair bytes))
        ∙ segments_part

    closures_again : written_all closure_layout (decode bytes).closures ≡ drop (33 + extent segments_pair bytes) bytes
    unfolding decode
    closures_again =
        written_all_told closure_layout closure_faithful (length (decode bytes).closures) (section closures_pair bytes)
        (length_closures_part ∙ sym closures_count)
        (under_part (offset closures_pair bytes) (extent closures_pair bytes))
        ∙ closures_part

    pub encode_decode : encode (decode bytes) ≡ bytes
    unfolding encode
    encode_decode =
        let size = extent segments_pair bytes in
        let last : take size (drop 33 bytes) ++ drop (33 + size) bytes ≡ drop 33 bytes =
        ap (λ bs. take size (drop 33 bytes) ++ bs) (sym (drop-drop size 33 bytes)) ∙ take-append-drop size (drop 33 bytes) in
        let middle : take 7 (drop 26 bytes) ++ drop 33 bytes ≡ drop 26 bytes =
        ap (λ bs. take 7 (drop 26 bytes) ++ bs) (sym (drop-drop 7 26 bytes)) ∙ take-append-drop 7 (drop 26 bytes) in
        ap₂ ◌++◌ head_again (ap₂ ◌++◌ settings_again (ap₂ ◌++◌ segments_again closures_again ∙ last) ∙ middle)
        ∙ take-append-drop 26 bytes

-- a sheet without a fault is laid out in order
pub faultless_laid : (bytes : List ℕ) → sheet_fault bytes ≡ None → Laid bytes
unfolding sheet_fault
faultless_laid bytes none =
    let kept = all_kept (head_rules bytes ++ content_rules bytes (decode bytes)) none in
    laid_from_rules bytes (keeps_parts (head_rules bytes) _ kept).0

-- and says what is within the ranges of a plan
pub faultless_fits : (bytes : List ℕ) → sheet_fault bytes ≡ None → Fits (decode bytes)
unfolding sheet_fault
faultless_fits bytes none =
    let laid = faultless_laid bytes none in
    let kept = all_kept (head_rules bytes ++ content_rules bytes (decode bytes)) none in
    let segments = segments_count bytes laid in
    let closures = closures_count bytes laid in
    let few = laid.segments_few in
    let few' = laid.closures_few in
    content_fits bytes (decode bytes) (keeps_parts (head_rules bytes) _ kept).1
    (omega (arith, segments, few)) (omega (arith, closures, few'))
