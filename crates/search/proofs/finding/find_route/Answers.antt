use Rattle.std.proofs.Common.{is_ok, sym, ap, ◌∙◌}
use Rattle.std.proofs.lemmas.Bool.{true≢false}
use Rattle.search.specs.Routes.{legs_of}
use Rattle.search.proofs.Granting.{traced_granted}
use Rattle.search.proofs.finding.find_route.Goals as goal

pub returns : goal.returns
returns g c =
    let b = c.args.book.now in
    let passed = c.in_ok-check_request.was in
    let ask = c.check_request.ensures.passed passed in
    let ok = sym c.check_request.ensures.answer ∙ passed in
    record {
      finds = (
        ok,
        traced_granted (g.B.Book.meaning b) (g.met.B.Book.sound b) c.args.request (legs_of c.trace_back.result)
            ask.origin_known (rw c.run-search.ensures.book at c.trace_back.ensures),
      );
      untouched = λ refused. absurd (true≢false (sym (ap is_ok ok) ∙ refused));
    }
