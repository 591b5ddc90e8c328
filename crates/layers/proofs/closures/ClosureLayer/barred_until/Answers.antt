use Rattle.std.proofs.Common.{ℕ, sym, ap, ◌∙◌, subst, ap₂}
use mathlib.Core.Path.{fun_ext}
use Rattle.book.specs.Layered.{closed_by, closing}
use Rattle.book.proofs.Layering.{closing_known, closing_unknown}
use Rattle.book.proofs.Segments.{segment_none, segment_some}
use Rattle.layers.specs.Closures.{ClosedUntil, kept_closures}
use Rattle.layers.proofs.closures.ClosureLayer.barred_until.Goals as goal

pub returns-in_err-slots : goal.returns-in_err-slots
returns-in_err-slots g c =
    let layer = c.args.self.now in
    let m = g.B.Book.meaning layer.below in
    let i = c.args.leg.segment in
    let past = segment_none m i c.in_err-slots.ensures in
    subst (ClosedUntil (closing (kept_closures layer) m.shown i) c.args.leg.entry) (sym c.from_residual.ensures)
    (closing_unknown (kept_closures layer) m i c.args.leg.entry past)

pub returns : goal.returns
returns g c =
    let layer = c.args.self.now in
    let m = g.B.Book.meaning layer.below in
    let i = c.args.leg.segment in
    let found = segment_some m i _ c.in_ok-slots.ensures in
    let slots = ap (λ (q : ℕ × ℕ × ℕ × ℕ). q.2) found.1 in
    let bars = ap₂ (λ ks u. closed_by ks i u) c.deref.ensures.0 slots
    ∙ sym (fun_ext (λ e. closing_known (kept_closures layer) m i e found.0)) in
    subst (λ shut. ClosedUntil shut c.args.leg.entry c.closed_until.result) bars c.closed_until.ensures
