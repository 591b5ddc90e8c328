-- What writing a sheet leaves in the memory.
use Rattle.std.specs.Prelude.{◌≡◌, ℕ, ◌+◌, ◌<◌, ◌≤◌, List, ◌++◌, length, take, drop, Ok, Err, Result}
use Rattle.plan.specs.Content.{Content}
use Rattle.plan.specs.Refusals.{outside}
use Rattle.plan.specs.declared.refusals.Fault.{Fault}
use Rattle.plan.specs.declared.refusals.Refusal.TheVariants as refusal
use Rattle.sheet.specs.Format.{encode}
use Rattle.sheet.specs.Verdict.{accepted, verdict}

-- memory with other bytes from a place on
unfoldable pub over : List ℕ → ℕ → List ℕ → List ℕ
over memory place bytes = take place memory ++ (bytes ++ drop (place + length bytes) memory)

-- bytes have been written from a place on, and the answer is the place behind them
pub record Put (before : List ℕ) (place : ℕ) (bytes : List ℕ) (after : List ℕ) (answer : ℕ) : Type 0 where
  pub written : after ≡ over before place bytes
  pub behind : answer ≡ place + length bytes

-- the sheet stands at the start of the memory, which is otherwise as it was, and reads back as the plan;
-- or the memory is too short, and as it was
pub record Written (c : Content) (before : List ℕ) (count : ℕ) (after : List ℕ) : Type 0 where
  pub whole : count ≡ length (encode c)
  pub within : count ≤ length before
  pub bytes : after ≡ encode c ++ drop count before
  pub reads_back : verdict (take count after) ≡ accepted c

pub record TooShort (c : Content) (before : List ℕ) (f : Fault) (after : List ℕ) : Type 0 where
  pub short : length before < length (encode c)
  pub said : f ≡ outside refusal.MemoryTooShort
  pub untouched : after ≡ before

abbrev pub Writes : Content → List ℕ → Result ℕ Fault → List ℕ → Type 0
Writes c before (Ok count) after = Written c before count after
Writes c before (Err f) after = TooShort c before f after
