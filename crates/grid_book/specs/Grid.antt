-- What bytes mean that have how many legs enter, segment after segment and slot after slot.
use Rattle.std.specs.Prelude.{ℕ, ◌+◌, ◌*◌, Bool, List, length, nat_le, slice_index}
use Rattle.book.specs.Bottom.{bottom}
use Rattle.book.specs.Meaning.{Meaning, Shown}

-- one byte for each segment and slot
abbrev pub bytes_of : Shown → ℕ
bytes_of s = length s.roads * s.horizon

abbrev pub suffices : Shown → List ℕ → Bool
suffices s cells = nat_le (bytes_of s) (length cells)

abbrev pub byte_at : Shown → List ℕ → ℕ → ℕ → ℕ
byte_at s cells i e = slice_index cells (i * s.horizon + e)

-- over too little memory no leg stands and each is barred
abbrev pub grid_meaning : Shown → List ℕ → Meaning
grid_meaning s cells = bottom s (suffices s cells) (byte_at s cells)
