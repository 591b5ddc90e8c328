-- The checks of a request.
use Rattle.std.proofs.Common.{◌≡◌, ℕ, ◌<◌, ◌≢◌, Ok, Result, sym, ◌∙◌, arith}
use Rattle.std.proofs.lemmas.Bool.Decides.{nat_tests}
use Rattle.plan.specs.declared.refusals.Refusal.{Refusal}
use Rattle.book.specs.Meaning.{Meaning, horizon, segments}
use Rattle.walks.specs.declared.requests.Request.{Request}
use Rattle.search.specs.Requests.{Askable, Checked, checks}

module _ (m : Meaning) (q : Request) (room : ℕ) where
  passes : Askable m q room → checks m q room ≡ Ok tt
  unfolding checks
  passes ask = grind (arith, nat_tests)

  passed_origin : checks m q room ≡ Ok tt → q.origin < m.shown.junctions
  unfolding checks
  passed_origin ok = grind (arith, nat_tests)

  passed_destination : checks m q room ≡ Ok tt → q.destination < m.shown.junctions
  unfolding checks
  passed_destination ok = grind (arith, nat_tests)

  passed_apart : checks m q room ≡ Ok tt → q.origin ≢ q.destination
  unfolding checks
  passed_apart ok same = grind (arith, nat_tests)

  passed_early : checks m q room ≡ Ok tt → q.slot < horizon m
  unfolding checks
  passed_early ok = grind (arith, nat_tests)

  passed_enough : checks m q room ≡ Ok tt → segments m < room
  unfolding checks
  passed_enough ok = grind (arith, nat_tests)

  pub checked : (r : Result (Unit {0}) Refusal) → r ≡ checks m q room → Checked m q room r
  checked r answer = record {
    answer = answer;
    passes = λ ask. answer ∙ passes ask;
    passed = λ ok.
        let is = sym answer ∙ ok in
        record {
          origin_known = passed_origin is;
          destination_known = passed_destination is;
          apart = passed_apart is;
          early = passed_early is;
          enough = passed_enough is;
        };
  }
