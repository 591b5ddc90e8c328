-- The tokens that are out, counted against the bookings that stand.
use Rattle.std.proofs.Common.{◌≡◌, ℕ, ◌+◌, ◌<◌, true, false, ◌≢◌, List, [], ◌∷◌, ◌++◌, Some, None, Option, sym, refl, subst, ⊎_elim, arith}
use Rattle.std.specs.List.{AllByRecursion}
use Rattle.std.proofs.lemmas.Bool.{cases_Bool}
use Rattle.std.proofs.lemmas.Bool.Decides.{nat_tests}
use Rattle.bookings.specs.Owed.{changed, moved, stands, without}
use Rattle.bookings.specs.States.{leads_to, needed}
use Rattle.bookings.specs.declared.states.Act.{Act}
use Rattle.bookings.specs.declared.states.Booking.{Booking}
use Rattle.bookings.specs.declared.states.State.{State}
use Rattle.bookings.specs.declared.states.State.TheVariants.{Held, UnderWay}
use Rattle.histories.specs.Tokens.{Distinct, Matched, hit, tally}

-- 1 where the state that a booking with number k comes to is s, and its number n
abbrev pub lands : State → ℕ → Option State → ℕ → ℕ
lands s n (Some r) k = hit s n r k
lands s n None k = 0

-- ---- tallies of bookings that are moved, ended, and entered

tally_moved : (s from to : State) (n m : ℕ) (bs : List Booking) → stands n from bs ≡ true
    → tally s m (moved n to bs) + hit s m from n ≡ tally s m bs + hit s m to n
tally_moved s from to n m [] standing = absurd (grind (arith, standing))
tally_moved s from to n m (b ∷ bs) standing =
    grind (arith, nat_tests, standing, tally_moved s from to n m bs)

tally_without : (s from : State) (n m : ℕ) (bs : List Booking) → stands n from bs ≡ true
    → tally s m (without n bs) + hit s m from n ≡ tally s m bs
tally_without s from n m [] standing = absurd (grind (arith, standing))
tally_without s from n m (b ∷ bs) standing =
    grind (arith, nat_tests, standing, tally_without s from n m bs)

tally_changed : (s from : State) (to : Option State) (n m : ℕ) (bs : List Booking) → stands n from bs ≡ true
    → tally s m (changed to n bs) + hit s m from n ≡ tally s m bs + lands s m to n
tally_changed s from (Some to) n m bs standing = tally_moved s from to n m bs standing
tally_changed s from None n m bs standing = omega (arith, tally_without s from n m bs standing)

tally_push : (s : State) (m : ℕ) (bs : List Booking) (b : Booking)
    → tally s m (bs ++ b ∷ []) ≡ tally s m bs + hit s m b.state b.number
tally_push s m [] b = omega arith
tally_push s m (c ∷ bs) b = omega (arith, tally_push s m bs b)

-- ---- what the tally says of a booking

-- none stands where none is counted
pub tally_none : (s : State) (n : ℕ) (bs : List Booking) → tally s n bs ≡ 0 → stands n s bs ≡ false
tally_none s n [] none = refl
tally_none s n (b ∷ bs) none =
    grind (arith, nat_tests, none, tally_none s n bs)

tally_absent : (s : State) (n : ℕ) (bs : List Booking) → AllByRecursion (λ b. b.number ≢ n) bs → tally s n bs ≡ 0
tally_absent s n [] absent = refl
tally_absent s n (b ∷ bs) absent =
    grind (arith, nat_tests, absent.0, tally_absent s n bs absent.1)

-- and none is counted where none stands, as no two have one number
tally_distinct : (s : State) (n : ℕ) (bs : List Booking) → Distinct bs → stands n s bs ≡ false → tally s n bs ≡ 0
tally_distinct s n [] distinct none = refl
tally_distinct s n (b ∷ bs) distinct none =
    grind (arith, nat_tests, none, tally_absent s b.number bs distinct.0, tally_distinct s n bs distinct.1)

-- the booking of a token that is out stands as its token says
pub counted_stands : (s : State) (n count : ℕ) (bs : List Booking) → Distinct bs → tally s n bs ≡ count → 0 < count
    → stands n s bs ≡ true
counted_stands s n count bs distinct counted some =
    ⊎_elim (λ yes. yes) (λ none. absurd (omega (arith, tally_distinct s n bs distinct none)))
    (cases_Bool (stands n s bs))

-- ---- the tokens out stay matched

pub matched_none : (H P : ℕ → ℕ) (bs : List Booking) → bs ≡ [] → ((n : ℕ) → H n ≡ 0) → ((n : ℕ) → P n ≡ 0)
    → Matched H P bs
matched_none H P bs none holds passages =
    subst (Matched H P) (sym none) record { held = λ n. sym (holds n); under_way = λ n. sym (passages n) }

module _ (H P H' P' : ℕ → ℕ) (bs bs' : List Booking) (was : Matched H P bs) where
  pub matched_entered : (b : Booking) → bs' ≡ bs ++ b ∷ []
      → ((m : ℕ) → H' m ≡ H m + hit Held m b.state b.number)
      → ((m : ℕ) → P' m ≡ P m + hit UnderWay m b.state b.number) → Matched H' P' bs'
  matched_entered b is holds passages =
      subst (Matched H' P') (sym is) record {
        held = λ m. omega (arith, was.held m, holds m, tally_push Held m bs b);
        under_way = λ m. omega (arith, was.under_way m, passages m, tally_push UnderWay m bs b);
      }

  -- an act that is done spends the token of the state that it needs, and gives out that of the state that it leads to
  pub matched_done : (act : Act) (n : ℕ) → stands n (needed act) bs ≡ true → bs' ≡ changed (leads_to act) n bs
      → ((m : ℕ) → H' m + hit Held m (needed act) n ≡ H m + lands Held m (leads_to act) n)
      → ((m : ℕ) → P' m + hit UnderWay m (needed act) n ≡ P m + lands UnderWay m (leads_to act) n)
      → Matched H' P' bs'
  matched_done act n standing is holds passages =
      subst (Matched H' P') (sym is) record {
        held = λ m.
            omega (arith, was.held m, holds m, tally_changed Held (needed act) (leads_to act) n m bs standing);
        under_way = λ m.
            omega (
              arith,
              was.under_way m,
              passages m,
              tally_changed UnderWay (needed act) (leads_to act) n m bs standing,
            );
      }
