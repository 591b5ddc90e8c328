-- A sheet whose head is in order.
use Rattle.std.specs.Prelude.{◌≡◌, ℕ, ◌+◌, ◌%◌, ◌≤◌, List, length}
use Rattle.sheet.specs.Format.{closures_pair, extent, offset, segments_pair, settings_pair}
use Rattle.sheet.specs.Numbers.{field}

pub record Laid (bytes : List ℕ) : Type 0 where
  pub head_whole : 26 ≤ length bytes
  pub format : field 1 0 bytes ≡ 1
  pub sections : field 1 1 bytes ≡ 3
  pub settings_offset : offset settings_pair bytes ≡ 26
  pub settings_extent : extent settings_pair bytes ≡ 7
  pub segments_offset : offset segments_pair bytes ≡ 33
  pub segments_whole : extent segments_pair bytes % 6 ≡ 0
  pub segments_few : extent segments_pair bytes ≤ 768
  pub closures_offset : offset closures_pair bytes ≡ 33 + extent segments_pair bytes
  pub closures_whole : extent closures_pair bytes % 5 ≡ 0
  pub closures_few : extent closures_pair bytes ≤ 80
  pub end : length bytes ≡ 33 + extent segments_pair bytes + extent closures_pair bytes
