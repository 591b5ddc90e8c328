use Rattle.std.proofs.Common.{rules, ap, ◌∙◌}
use Rattle.std.proofs.iter.runs.Sources.{range_runs}
use Rattle.search.specs.Arrivals.{best}
use Rattle.search.specs.Steps.{StepOver}
use Rattle.search.proofs.Firsts.{first_found}
use Rattle.search.proofs.earliest.Search.step_back.Goals as goal

pub returns : goal.returns
returns g c =
    let m = g.B.Book.meaning c.args.self.now.book.now in
    let run = c.find_map.ensures.runs in
    let up = range_runs run.0 run.0.seen in
    first_found run.0 _ _ _ up (ap (λ r. r.start) run.1)
    (ap (λ r. r.end) run.1 ∙ ap (λ s. s.segments) c.sizes.ensures)
    _ _ (StepOver m (best c.args.self.now.arrivals.junctions) c.args.junction)
    (λ k r f' call. search rules) c.find_map.result run.2
