-- Which token a client has after it set out.
use Rattle.std.specs.Prelude.{◌≡◌, ℕ, ◌+◌, Ok, Err, Result}
use Rattle.controller.specs.declared.tokens.Token.{Token}
use Rattle.controller.specs.declared.tokens.kinds.UnderWay.{UnderWay}
use Rattle.token_cases.specs.declared.NotUnderWay.{NotUnderWay}
use Rattle.token_cases.specs.declared.NotUnderWay.TheVariants.{Held, Refused}

-- the one with the number after the last one given, unless its request was refused
abbrev pub SetsOut : ℕ → Result (Token UnderWay) NotUnderWay → Type 0
SetsOut last (Ok passage) = passage.number ≡ last + 1
SetsOut last (Err (Held x hold)) = hold.number ≡ last + 1
SetsOut last (Err (Refused x)) = Unit {0}
