use Rattle.std.proofs.Common.{◌≡◌, true, false, is_ok, sym, ap, ◌∙◌, rules}
use Rattle.std.proofs.lemmas.Bool.{lt-ltb}
use Rattle.plan.specs.Content.{content}
use Rattle.book.proofs.Calling.{none_freed, none_reserved}
use Rattle.book.specs.Bottom.{no_legs}
use Rattle.book.specs.Calls.{frees, reserves}
use Rattle.book.specs.Shown.{plan_shown}
use Rattle.leg_book.specs.LegBook.{legs_of}
use Rattle.book_cases.proofs.short.legs_calls.Goals as goal

pub returns : goal.returns
returns c short =
    let l = c.args.leg in
    let s = plan_shown (content c.args.plan.now) in
    let none : legs_of c.new-book.result ≡ no_legs s true =
    c.new-book.ensures.meaning ∙ ap (no_legs s) (lt-ltb _ _ short) in
    let unreserved : is_ok c.reserve.result ≡ false =
    ap is_ok c.reserve.ensures.does.answer ∙ ap (λ m. is_ok (reserves m l)) none ∙ none_reserved s l in
    let same = c.reserve.ensures.refused unreserved in
    let unfreed : is_ok c.free.result ≡ false =
    ap is_ok c.free.ensures.does.answer ∙ ap (λ m. is_ok (frees m l)) (ap legs_of same ∙ none)
    ∙ none_freed s true l in
    let still = c.free.ensures.refused unfreed ∙ same in
    let kept = ap (λ b. b.records.now) still ∙ c.new-book.ensures.too_little short in
    let named = sym c.new-book.ensures.lent ∙ ap (λ b. b.records.ghost_name) (sym still) in
    search rules
