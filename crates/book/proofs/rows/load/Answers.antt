use Rattle.std.proofs.Common.{◌≡◌, ℕ, sym, ◌∙◌, Option, Some, None, unwrap_or, rules}
use Rattle.std.specs.Option.{MatchOption}
use Rattle.book.proofs.Deciding.{load_none, load_told}
use Rattle.book.specs.Loads.{load as load_in}
use Rattle.book.specs.Meaning.{Meaning}
use Rattle.book.specs.Rows.{IsRow, NoRow, row_load}
use Rattle.book.specs.declared.rows.Row.{Row}
use Rattle.book.proofs.rows.load.Goals as goal

told : (m : Meaning) (i t : ℕ) (Asked : Row → ℕ → Type 0) (r : Option ℕ)
    → MatchOption r (NoRow m i) (λ n. (row : Row) × IsRow m i row × Asked row n)
    → ((row : Row) (n : ℕ) → Asked row n → n ≡ row_load row.entering.now row.slots t)
    → unwrap_or r 0 ≡ load_in m i t
told m i t Asked None none loads = sym (load_none m i t none.empty)
told m i t Asked (Some n) (row, is, asked) loads =
    loads row n asked ∙ load_told m i row.slots row.entering.now is.slots is.long is.counts t

pub returns : goal.returns
returns g c =
    c.unwrap_or.ensures
    ∙ told (g.B.Rows.meaning c.args.book.now) c.args.segment c.args.slot _ c.with_row.result c.with_row.ensures
    (λ row n asked. search rules)
