-- One call, by a caller with the tokens that are out.
use Rattle.std.specs.Prelude.{◌≡◌, ℕ, ◌+◌, ◌<◌, ◌≤◌, vec_len, vec_capacity}
use Rattle.book.specs.Meaning.{Meaning}
use Rattle.bookings.specs.declared.calls.Answer.{Answer}
use Rattle.bookings.specs.declared.calls.Call.{Call}
use Rattle.histories.specs.Courses.{Made}
use Rattle.rehearsal.specs.declared.caller.Caller.{Caller}

module _ {B : Type 0} where
  abbrev pub MadeBy : (B → Meaning) → Caller B → Call → Answer → Caller B → Type 0
  MadeBy meaning t c a u =
      Made (meaning t.controller.book) t.controller.register c a (meaning u.controller.book) u.controller.register

  -- there is room for one more token of each kind
  pub record HasRoom (t : Caller B) : Type 0 where
    pub holds : vec_len t.holds < vec_capacity t.holds
    pub passages : vec_len t.passages < vec_capacity t.passages

  -- at most one more token of each kind, in the same room
  pub record Grown (t u : Caller B) : Type 0 where
    pub holds : vec_len u.holds ≤ vec_len t.holds + 1
    pub passages : vec_len u.passages ≤ vec_len t.passages + 1
    pub hold_room : vec_capacity u.holds ≡ vec_capacity t.holds
    pub passage_room : vec_capacity u.passages ≡ vec_capacity t.passages

  -- no token, and room for n of each kind
  pub record NoneOut (n : ℕ) (t : Caller B) : Type 0 where
    pub holds : vec_len t.holds ≡ 0
    pub passages : vec_len t.passages ≡ 0
    pub hold_room : vec_capacity t.holds ≡ n
    pub passage_room : vec_capacity t.passages ≡ n
