use Rattle.std.proofs.Common.{ℕ, ◌-◌, ◌≤◌, Some, None, Option, sym, ap, subst, ⊎_elim, arith, rules}
use Rattle.std.specs.Option.{MatchOption, option_flatten}
use Rattle.book.proofs.Deciding.{barred_not_admitted, next_told, unknown_not_admitted}
use Rattle.book.specs.Entries.{NextEntry}
use Rattle.book.specs.Layered.{held_back}
use Rattle.book.specs.Meaning.{Meaning, Sound}
use Rattle.book.specs.Rows.{FirstFit, IsRow, NoRow}
use Rattle.book.specs.declared.rows.Row.{Row}
use Rattle.book.proofs.rows.next_entry_held_back.Goals as goal

next : (m : Meaning) → Sound m → (i from held : ℕ) (Asked : Row → Option ℕ → Type 0) (r : Option (Option ℕ))
    → MatchOption r (NoRow m i) (λ entry. (row : Row) × IsRow m i row × Asked row entry)
    → ((row : Row) (entry : Option ℕ) → Asked row entry → 1 ≤ row.slots
    → FirstFit row.entering.now from 65535 row.slots (row.limit - held) entry)
    → NextEntry (held_back held m) i from (option_flatten r)
next m sound i from held Asked None none first =
    λ k later.
    ⊎_elim (λ past. unknown_not_admitted held m _ past) (λ bars. barred_not_admitted held m _ (bars k)) none.shut
next m sound i from held Asked (Some entry) (row, is, asked) first =
    let fits = sound.plan_fits in
    next_told held m i row.entering.now is.known is.unbarred is.long is.counts
    (fits.roads_fit i is.known).takes_a_slot row.slots (row.limit - held) is.slots
    (ap (λ n. n - held) is.limit) from 65535 entry (omega (arith, fits.few_slots)) (first row entry asked)

pub returns : goal.returns
returns g c =
    let m = g.B.Rows.meaning c.args.book.now in
    subst (NextEntry (held_back c.args.held m) c.args.segment c.args.from) (sym c.flatten.ensures)
    (next m (g.met.B.Rows.sound c.args.book.now) c.args.segment c.args.from c.args.held _ c.with_row.result c.with_row.ensures
    (λ row entry asked some. search rules))
