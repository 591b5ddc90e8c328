-- A call on a controller, over the meaning of its book.
use Rattle.book.specs.Meaning.{Meaning}
use Rattle.bookings.specs.Steps.{Step}
use Rattle.bookings.specs.declared.calls.Answer.{Answer}
use Rattle.bookings.specs.declared.calls.Call.{Call}
use Rattle.controller.specs.declared.controller.Controller.{Controller}

abbrev pub Stepped : {B : Type 0} → (B → Meaning) → Controller B → Call → Answer → Controller B → Type 0
Stepped meaning c call answer c' =
    Step (meaning c.book) c.register call answer (meaning c'.book) c'.register
