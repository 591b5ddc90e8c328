-- Lists of calls.
use Rattle.std.specs.Prelude.{ℕ, min}
use Rattle.bookings.specs.declared.calls.Call.{Call}
use Rattle.bookings.specs.declared.calls.Call.TheVariants as call

-- a request is lent no more labels than a scratch of n labels has
abbrev pub lent : ℕ → Call → Call
lent n (call.Ask q labels) = call.Ask q (min labels n)
lent n (call.Act act number) = call.Act act number
