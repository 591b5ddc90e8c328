-- Events with the same key are the same, which the law of their order asks for.
use Rattle.std.specs.Prelude.{◌≡◌, ℕ, refl}
use Rattle.std.proofs.Common.{arith}
use Rattle.queue_client.specs.Kinds.{Event, rank}
use Rattle.queue_client.specs.declared.event.Change.{Change}
use Rattle.queue_client.specs.declared.event.Change.TheVariants.{End, Departure}

pub change_from_rank : (a b : Change) → rank a ≡ rank b → a ≡ b
change_from_rank End End same = refl
change_from_rank End Departure same = absurd (omega arith)
change_from_rank Departure End same = absurd (omega arith)
change_from_rank Departure Departure same = refl

unfoldable pub key : Event → ℕ × (ℕ × ℕ)
key x = (x.slot, (rank x.change, x.number))

unfoldable pub event_from_key : (x y : Event) → key x ≡ key y → x ≡ y
unfolding key
event_from_key x y same =
    let change = change_from_rank x.change y.change (λ i. (same i).1.0) in
    λ i. record { slot = (same i).0; change = change i; number = (same i).1.1 }
