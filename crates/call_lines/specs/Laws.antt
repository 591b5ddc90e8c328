-- What follows of the grammar alone, and the shortest spelling of a call.
use Rattle.std.specs.Prelude.{◌≡◌, ℕ, ◌<◌, ◌≤◌, List, ◌∷◌, length, decimal}
use Rattle.std.specs.List.{flat_map, AllByRecursion}
use Rattle.call_lines.specs.Grammar.{Spells, letter, most_number, numbers, space}
use Rattle.call_lines.specs.Parsing.{deciding}
use Rattle.call_lines.specs.declared.calls.LineCall.{LineCall}

-- a line spells one call at most
abbrev pub OneCall : Type 0
OneCall = (line : List ℕ) (c d : LineCall) → Spells line c → Spells line d → c ≡ d

-- a line that spells a call is shorter than the bytes that decide
abbrev pub SpelledShort : Type 0
SpelledShort = (line : List ℕ) (c : LineCall) → Spells line c → length line < deciding

-- a call without leading zeros
abbrev pub spelling : LineCall → List ℕ
spelling c = letter c ∷ flat_map (λ n. space ∷ decimal n) (numbers c)

abbrev pub SpellingSpells : Type 0
SpellingSpells = (c : LineCall) → AllByRecursion (λ n. n ≤ most_number) (numbers c) → Spells (spelling c) c
