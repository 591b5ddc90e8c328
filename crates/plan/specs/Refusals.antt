-- The refusals and the sections of a sheet as numbers, the refusals in words, and a fault outside a sheet.
use Rattle.std.specs.Prelude.{ℕ, List, codes}
use Rattle.plan.specs.declared.refusals.Refusal.{Refusal}
use Rattle.plan.specs.declared.refusals.Refusal.TheVariants as refusal
use Rattle.plan.specs.declared.refusals.Fault.{Fault}
use Rattle.plan.specs.declared.refusals.Section.{Section}
use Rattle.plan.specs.declared.refusals.Section.TheVariants as section

abbrev pub refusal_number : Refusal → ℕ
refusal_number refusal.SheetTooShort = 1
refusal_number refusal.FormatUnknown = 2
refusal_number refusal.SectionMisplaced = 3
refusal_number refusal.SectionLengthWrong = 4
refusal_number refusal.SettingOutOfRange = 5
refusal_number refusal.PlanFull = 6
refusal_number refusal.SegmentOutOfRange = 7
refusal_number refusal.TravelTooLong = 8
refusal_number refusal.ClosureOutOfRange = 9
refusal_number refusal.MemoryTooShort = 10
refusal_number refusal.JunctionUnknown = 11
refusal_number refusal.OriginIsDestination = 12
refusal_number refusal.SlotPastHorizon = 13
refusal_number refusal.ScratchTooSmall = 14
refusal_number refusal.NumbersUsedUp = 15
refusal_number refusal.BookingsFull = 16
refusal_number refusal.NoWalk = 17
refusal_number refusal.TooManyLegs = 18
refusal_number refusal.TokenNotStanding = 19
refusal_number refusal.NumberNotParked = 20
refusal_number refusal.LegNotAdmissible = 21
refusal_number refusal.LegsFull = 22
refusal_number refusal.LegNotStanding = 23
refusal_number refusal.LineMalformed = 24

abbrev pub refusal_words : Refusal → List ℕ
refusal_words refusal.SheetTooShort = codes "the sheet has fewer than 26 bytes"
refusal_words refusal.FormatUnknown = codes "the format is unknown"
refusal_words refusal.SectionMisplaced = codes "a section is misplaced"
refusal_words refusal.SectionLengthWrong = codes "a section has a wrong length"
refusal_words refusal.SettingOutOfRange = codes "a setting is out of range"
refusal_words refusal.PlanFull = codes "the plan is full"
refusal_words refusal.SegmentOutOfRange = codes "a segment is out of range"
refusal_words refusal.TravelTooLong = codes "a segment takes more than 64 slots"
refusal_words refusal.ClosureOutOfRange = codes "a closure is out of range"
refusal_words refusal.MemoryTooShort = codes "the memory is too short for the sheet"
refusal_words refusal.JunctionUnknown = codes "a junction is unknown"
refusal_words refusal.OriginIsDestination = codes "origin and destination are equal"
refusal_words refusal.SlotPastHorizon = codes "the slot is not below the horizon"
refusal_words refusal.ScratchTooSmall = codes "the scratch is too small"
refusal_words refusal.NumbersUsedUp = codes "all numbers have been given"
refusal_words refusal.BookingsFull = codes "64 bookings stand"
refusal_words refusal.NoWalk = codes "no admissible walk exists"
refusal_words refusal.TooManyLegs = codes "the route has too many legs"
refusal_words refusal.TokenNotStanding = codes "the token does not stand"
refusal_words refusal.NumberNotParked = codes "the number is not parked"
refusal_words refusal.LegNotAdmissible = codes "the leg is not admissible"
refusal_words refusal.LegsFull = codes "1,024 legs stand"
refusal_words refusal.LegNotStanding = codes "the leg does not stand"
refusal_words refusal.LineMalformed = codes "the line is malformed"

-- the head of a sheet has the number of what is in no sheet
abbrev pub section_number : Section → ℕ
section_number section.Outside = 0
section_number section.Settings = 1
section_number section.Segments = 2
section_number section.Closures = 3

abbrev pub outside : Refusal → Fault
outside r = record { refusal = r; section = section.Outside; place = 0 }
