-- What records mean that are standing legs where they are in use.
use Rattle.std.specs.Prelude.{ℕ, Bool, true, false, ◌&&◌, List, length, take, count_by, ◌==◌, nat_le, nat_lt, Some, None, is_some}
use Rattle.std.specs.Option.{option_map_or}
use Rattle.plan.specs.Limits.{most_legs}
use Rattle.book.specs.Bottom.{bottom}
use Rattle.book.specs.Meaning.{Meaning, Shown}
use Rattle.book.specs.declared.legs.Leg.{Leg}
use Rattle.leg_book.specs.declared.leg_record.LegRecord.{LegRecord}

abbrev pub no_record : LegRecord
no_record = record { leg = None }

abbrev pub record_of : Leg → LegRecord
record_of l = record { leg = Some l }

-- a standing leg of segment i
abbrev pub is_of : ℕ → LegRecord → Bool
is_of i r = option_map_or (λ l. l.segment == i) r.leg false

-- the standing leg of segment i and entry e
abbrev pub is_leg : ℕ → ℕ → LegRecord → Bool
is_leg i e r = option_map_or (λ l. l.segment == i && l.entry == e) r.leg false

-- how many standing legs of segment i and entry e there are
abbrev pub count_at : List LegRecord → ℕ → ℕ → ℕ
count_at rs i e = count_by (is_leg i e) rs

abbrev pub count_used : List LegRecord → ℕ
count_used rs = count_by (λ r. is_some r.leg) rs

-- the records that a book uses are the first of its memory, one for each leg that it may have
abbrev pub part_used : List LegRecord → List LegRecord
part_used memory = take most_legs memory

abbrev pub suffices : List LegRecord → Bool
suffices memory = nat_le most_legs (length memory)

-- the plan has the record's segment and entry, if it is in use
abbrev pub in_plan : Shown → LegRecord → Bool
in_plan s r = option_map_or (λ l. nat_lt l.segment (length s.roads) && nat_lt l.entry s.horizon) r.leg true

-- over too little memory no leg stands and each is barred
abbrev pub legs_meaning : Shown → List LegRecord → Meaning
legs_meaning s memory = bottom s (suffices memory) (count_at (part_used memory))
