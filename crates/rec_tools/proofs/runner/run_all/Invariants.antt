use Rattle.std.proofs.Common.{◌≡◌, ◌≤◌, length, take, vec_len, vec_capacity}
use Rattle.std.specs.List.{AllByRecursion}
use Rattle.rec_tools.specs.Requests.{IsChange}
use Rattle.rec_tools.proofs.lemmas.runs.RunAllLemmas.{AttemptedAll}
use Rattle.rec_tools.proofs.runner.run_all.Given as goal

-- the requests so far have their answers, and there is room for the others
abbrev pub invariant-loop-request : goal.invariant-loop-request
invariant-loop-request g l = record {
  attempted : AttemptedAll g.H.Home.goes g.S.Sink.contents g.S.Sink.failure_count l.fn.home l.home l.fn.out l.out (take l.request-index l.requests) l.answers.items;
  counted : g.S.Sink.failure_count l.fn.out ≤ g.S.Sink.failure_count l.out;
  answered : vec_len l.answers ≡ l.request-index;
  room : vec_capacity l.answers ≡ length l.requests;
  silent : AllByRecursion IsChange l.requests → l.out ≡ l.fn.out;
}
