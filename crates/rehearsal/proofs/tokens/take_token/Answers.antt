use Rattle.std.proofs.Common.{eqb, vec_items, refl, sym, ap, ◌∙◌}
use Rattle.std.specs.List.{position}
use Rattle.controller.specs.declared.tokens.Token.{Token}
use Rattle.rehearsal.proofs.TokenLists.{none_with, taken_out}
use Rattle.rehearsal.proofs.tokens.take_token.Goals as goal

pub returns-in_err-place-clause-taken : goal.returns-in_err-place-clause-taken
returns-in_err-place-clause-taken g c =
    let found = ap (position (λ (t : Token _). eqb t.number c.args.number)) (sym c.deref.ensures.value) in
    rw c.from_residual.ensures (
      none_with (vec_items c.args.tokens.now) c.args.number (found ∙ sym c.token_place.ensures ∙ c.in_err-place.was),
      refl,
    )

pub returns-clause-taken : goal.returns-clause-taken
returns-clause-taken g c =
    let found = ap (position (λ (t : Token _). eqb t.number c.args.number)) (sym c.deref.ensures.value) in
    taken_out (vec_items c.args.tokens.now) c.in_ok-place.place c.args.number _ _
    (found ∙ sym c.token_place.ensures ∙ c.in_ok-place.was) c.remove.ensures.value c.remove.ensures.items
