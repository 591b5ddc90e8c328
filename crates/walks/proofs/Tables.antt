-- What a solved table says of the earliest slots and of the tie rule.
use Rattle.std.proofs.Common.{◌≡◌, ℕ, ◌<◌, ◌≢◌, List, ⊎_elim, arith}
use Rattle.std.proofs.lemmas.Bool.{cases_lt}
use Rattle.book.specs.Meaning.{Meaning, Sound}
use Rattle.book.specs.declared.legs.Leg.{Leg}
use Rattle.walks.specs.Labels.{at, far}
use Rattle.walks.specs.Searching.{Solved}
use Rattle.walks.specs.Tables.{TableInto, TableLast}
use Rattle.walks.specs.Walks.{Earliest, Into, Last, from}
use Rattle.walks.proofs.Existence.{some_into}
use Rattle.walks.proofs.Walking.{earliest_unique}

module _ {m : Meaning} {o t : ℕ} {best : List ℕ} (solved : Solved m o t best) where
  -- ---- earliest slots

  earliest_table : (w a : ℕ) → w < m.shown.junctions → Earliest m o t w a → a ≡ at best w
  earliest_table w a known earliest =
      let bounded = solved.bounded w known in
      ⊎_elim
      (λ near. earliest_unique m o t w a (at best w) earliest (solved.earliest w known near))
      (λ away. absurd (solved.unreached w known (omega arith) (a, earliest.legs, earliest.walk)))
      (cases_lt (at best w) far)

  module _ (sound : Sound m) where
    -- ---- the tie rule

    table_into : (v i : ℕ) → at best v < far → TableInto m best v i → Into m o t v (at best v) i
    table_into v i near into =
        let start_known = (sound.plan_fits.roads_fit i into.known).start_known in
        let reaches = into.reaches in
        record {
          known = into.known;
          ends = into.ends;
          start_slot = at best (from m i);
          start_earliest = solved.earliest (from m i) start_known (omega arith);
          reaches = reaches;
          fits = into.fits;
        }

    into_table : (v i : ℕ) → Into m o t v (at best v) i → TableInto m best v i
    into_table v i into =
        let start_known = (sound.plan_fits.roads_fit i into.known).start_known in
        let reaches = into.reaches in
        let same = earliest_table (from m i) into.start_slot start_known into.start_earliest in
        record { known = into.known; ends = into.ends; reaches = omega arith; fits = into.fits }

    module _ (v : ℕ) (known : v < m.shown.junctions) (near : at best v < far) where
      pub table_last : (l : Leg) (start : ℕ) → TableLast m best v l start → Last m o t v l
      table_last l start last = record {
        arrival = at best v;
        earliest = solved.earliest v known near;
        into = table_into v l.segment near last.into;
        lowest = λ j below into. last.lowest j below (into_table v j into);
        enters = last.enters;
      }

      -- a last segment is found in the table
      pub some_table_into : v ≢ o → (i : ℕ) × TableInto m best v i
      some_table_into away =
          let some = some_into m sound o t v (at best v) away (solved.earliest v known near) in
          (some.0, into_table v some.0 some.1)
