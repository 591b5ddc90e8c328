-- The named limits of plans and books. src/limits.rt has the same numbers for the code.
use Rattle.std.specs.Prelude.{ℕ}

abbrev pub most_junctions : ℕ
most_junctions = 64

abbrev pub most_segments : ℕ
most_segments = 128

abbrev pub most_closures : ℕ
most_closures = 16

abbrev pub most_slots : ℕ
most_slots = 512

abbrev pub most_class : ℕ
most_class = 15

abbrev pub most_travel : ℕ
most_travel = 64

abbrev pub most_count : ℕ
most_count = 255

abbrev pub most_legs : ℕ
most_legs = 1024

-- how many bookings may stand
abbrev pub most_bookings : ℕ
most_bookings = 64

-- how many bookings may be granted in all
abbrev pub most_numbers : ℕ
most_numbers = 65535
