use Rattle.std.proofs.Common.{◌≡◌, ℕ, ◌-◌, ◌≤◌, Some, None, Option, is_some, sym, ap, ◌∙◌, ⊎_elim, rules}
use Rattle.std.specs.Option.{MatchOption, option_flatten}
use Rattle.book.proofs.Deciding.{admitted_told, barred_not_admitted, unknown_not_admitted}
use Rattle.book.specs.Layered.{held_back}
use Rattle.book.specs.Loads.{admissible}
use Rattle.book.specs.Meaning.{Meaning, Sound}
use Rattle.book.specs.Rows.{FirstFit, IsRow, NoRow}
use Rattle.book.specs.declared.legs.Leg.{Leg}
use Rattle.book.specs.declared.rows.Row.{Row}
use Rattle.book.proofs.rows.admissible_held_back.Goals as goal

admitted : (m : Meaning) → Sound m → (l : Leg) (held : ℕ) (Asked : Row → Option ℕ → Type 0) (r : Option (Option ℕ))
    → MatchOption r (NoRow m l.segment) (λ entry. (row : Row) × IsRow m l.segment row × Asked row entry)
    → ((row : Row) (entry : Option ℕ) → Asked row entry → 1 ≤ row.slots
    → FirstFit row.entering.now l.entry l.entry row.slots (row.limit - held) entry)
    → is_some (option_flatten r) ≡ admissible (held_back held m) l
admitted m sound l held Asked None none first =
    sym (⊎_elim (λ past. unknown_not_admitted held m l past) (λ bars. barred_not_admitted held m l (bars l.entry)) none.shut)
admitted m sound l held Asked (Some entry) (row, is, asked) first =
    admitted_told held m l.segment row.entering.now is.known is.unbarred is.long is.counts
    (sound.plan_fits.roads_fit l.segment is.known).takes_a_slot row.slots (row.limit - held) is.slots
    (ap (λ n. n - held) is.limit) l.entry entry (first row entry asked)

pub returns : goal.returns
returns g c =
    c.is_some.ensures ∙ ap is_some c.flatten.ensures
    ∙ admitted (g.B.Rows.meaning c.args.book.now) (g.met.B.Rows.sound c.args.book.now) c.args.leg c.args.held _ c.with_row.result c.with_row.ensures
    (λ row entry asked some. search rules)
