use Rattle.std.proofs.Common.{◌∙◌, arith, rules}
use Rattle.rec_tools.proofs.lemmas.runs.RunAllLemmas.{AttemptedAll, attempted_all-none, attempted_all-more, attempted_all-runs, attempted_all-fails, change_at, take_one_more, take_them_all}
use Rattle.rec_tools.proofs.runner.run_all.Goals as goal

pub loop-request-init : goal.loop-request-init
loop-request-init g c = record {
  attempted = rw c.in_ok-answers.ensures.items (attempted_all-none g.H.Home.goes g.S.Sink.contents g.S.Sink.failure_count _ c.args.out.now);
  counted = omega arith;
  answered = c.in_ok-answers.ensures.len;
  room = c.in_ok-answers.ensures.exact;
  silent = search rules;
}

pub loop-request-preserved : goal.loop-request-preserved
loop-request-preserved g c =
    let taken = take_one_more c.args.requests.now c.loop-request.request-index c.request-item.result c.loop-request-test.true c.request-item.is in
    let so_far = c.loop-request.invariant in
    record {
      attempted = rw (taken, c.push_reserved.ensures.items, c.without_texts.ensures)
          (attempted_all-more g.H.Home.goes g.S.Sink.contents g.S.Sink.failure_count _ _ c.run.new.out so_far.counted c.run.ensures.counted _ _ _ _ _ _ _ so_far.attempted c.run.ensures.attempts);
      counted = omega arith;
      answered = omega arith;
      room = omega arith;
      silent = λ silent. c.run.ensures.silent (change_at _ _ _ c.loop-request-test.true c.request-item.is silent) ∙ so_far.silent silent;
    }

pub returns-clause-attempts : goal.returns-clause-attempts
returns-clause-attempts g c =
    take_them_all c.args.requests.now c.loop-request.request-index
    (λ requests. AttemptedAll g.H.Home.goes g.S.Sink.contents g.S.Sink.failure_count c.args.home.now c.loop-request.home c.args.out.now c.loop-request.out requests c.loop-request.answers.items)
    c.loop-request-test.false c.loop-request.invariant.attempted

pub returns-clause-guarantee : goal.returns-clause-guarantee
returns-clause-guarantee g c =
    attempted_all-runs g.H.Home.goes g.S.Sink.contents g.S.Sink.failure_count g.H.Home.contents g.met.H.Home.follows
    c.args.home.now c.loop-request.home c.args.out.now c.loop-request.out c.args.requests.now c.loop-request.answers.items
    (take_them_all c.args.requests.now c.loop-request.request-index
    (λ requests. AttemptedAll g.H.Home.goes g.S.Sink.contents g.S.Sink.failure_count c.args.home.now c.loop-request.home c.args.out.now c.loop-request.out requests c.loop-request.answers.items)
    c.loop-request-test.false c.loop-request.invariant.attempted)

pub returns-clause-failing_stores : goal.returns-clause-failing_stores
returns-clause-failing_stores g c =
    attempted_all-fails g.H.Home.goes g.S.Sink.contents g.S.Sink.failure_count g.H.Home.contents g.met.H.Home.follows
    c.args.home.now c.loop-request.home c.args.out.now c.loop-request.out c.args.requests.now c.loop-request.answers.items
    (take_them_all c.args.requests.now c.loop-request.request-index
    (λ requests. AttemptedAll g.H.Home.goes g.S.Sink.contents g.S.Sink.failure_count c.args.home.now c.loop-request.home c.args.out.now c.loop-request.out requests c.loop-request.answers.items)
    c.loop-request-test.false c.loop-request.invariant.attempted)
