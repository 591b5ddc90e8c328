-- The road sheet: a head, then the sections settings, segments and closures.
use Rattle.std.specs.Prelude.{ℕ, ◌+◌, ◌*◌, List, [], ◌∷◌, ◌++◌, length, take, drop, slice_index}
use Rattle.plan.specs.Content.{Content}
use Rattle.plan.specs.declared.parts.Closure.{Closure}
use Rattle.plan.specs.declared.parts.Segment.{Segment}
use Rattle.plan.specs.declared.parts.Settings.{Settings}
use Rattle.sheet.specs.Numbers.{field}
use Rattle.sheet.specs.Records.{Layout, packed, told, told_all, written, written_all}

-- the format, the number of sections, and of each section its offset and its length
abbrev pub head_widths : List ℕ
head_widths = 1 ∷ 1 ∷ 4 ∷ 4 ∷ 4 ∷ 4 ∷ 4 ∷ 4 ∷ []

abbrev pub head_values : ℕ → ℕ → List ℕ
head_values segments closures =
    1 ∷ 3 ∷ 26 ∷ 7 ∷ 33 ∷ (6 * segments) ∷ (33 + 6 * segments) ∷ (5 * closures) ∷ []

-- a number of four bytes
abbrev pub number_layout : Layout ℕ
number_layout = record { widths = 4 ∷ []; values = λ n. n ∷ []; made = λ vs. slice_index vs 0 }

abbrev pub settings_layout : Layout Settings
settings_layout = record {
  widths = 2 ∷ 2 ∷ 2 ∷ 1 ∷ [];
  values = λ s. s.slot_length ∷ s.density ∷ s.horizon ∷ s.junctions ∷ [];
  made = λ vs. record {
    slot_length = slice_index vs 0;
    density = slice_index vs 1;
    horizon = slice_index vs 2;
    junctions = slice_index vs 3;
  };
}

abbrev pub segment_layout : Layout Segment
segment_layout = record {
  widths = 1 ∷ 1 ∷ 2 ∷ 1 ∷ 1 ∷ [];
  values = λ g. g.start ∷ g.end ∷ g.length ∷ g.lanes ∷ g.class ∷ [];
  made = λ vs. record {
    start = slice_index vs 0;
    end = slice_index vs 1;
    length = slice_index vs 2;
    lanes = slice_index vs 3;
    class = slice_index vs 4;
  };
}

abbrev pub closure_layout : Layout Closure
closure_layout = record {
  widths = 1 ∷ 2 ∷ 2 ∷ [];
  values = λ k. k.segment ∷ k.first ∷ k.end ∷ [];
  made = λ vs. record { segment = slice_index vs 0; first = slice_index vs 1; end = slice_index vs 2 };
}

-- what records one after the other say
abbrev pub segments_in : List ℕ → List Segment
segments_in = told_all segment_layout

abbrev pub closures_in : List ℕ → List Closure
closures_in = told_all closure_layout

abbrev pub head_bytes : ℕ → ℕ → List ℕ
head_bytes segments closures = packed head_widths (head_values segments closures)

-- the sheet of a plan
unfoldable pub encode : Content → List ℕ
encode c =
    head_bytes (length c.segments) (length c.closures)
    ++ (written settings_layout c.settings
    ++ (written_all segment_layout c.segments ++ written_all closure_layout c.closures))

-- the places of the three pairs in the head, and what a pair says
abbrev pub settings_pair : ℕ
settings_pair = 2

abbrev pub segments_pair : ℕ
segments_pair = 10

abbrev pub closures_pair : ℕ
closures_pair = 18

abbrev pub offset : ℕ → List ℕ → ℕ
offset pair bytes = field 4 pair bytes

abbrev pub extent : ℕ → List ℕ → ℕ
extent pair bytes = field 4 (pair + 4) bytes

abbrev pub section : ℕ → List ℕ → List ℕ
section pair bytes = take (extent pair bytes) (drop (offset pair bytes) bytes)

-- what the sections say
unfoldable pub decode : List ℕ → Content
decode bytes = record {
  settings = told settings_layout (section settings_pair bytes);
  segments = segments_in (section segments_pair bytes);
  closures = closures_in (section closures_pair bytes);
}
