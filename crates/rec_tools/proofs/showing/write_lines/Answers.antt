use Rattle.std.proofs.Common.{subst}
use Rattle.rec_tools.specs.proving.Logs.{HaveSteps}
use Rattle.rec_select.proofs.lemmas.info.InfoLemmas.{IsTakenTo-none}
use Rattle.rec_select.proofs.lemmas.printing.PutsLemmas.{Prints-stopped}
use Rattle.rec_tools.proofs.lemmas.printing.LogLemmas.{IsPrintedTo, line-stopped, line-printed, next-stopped, all_printed, next_have_steps, first_has_steps, next_is_less}
use Rattle.rec_tools.proofs.showing.write_lines.Goals as goal

pub loop-walk-init : goal.loop-walk-init
loop-walk-init g c = (c.requires, λ all text goes log. (all, text, goes, log, IsTakenTo-none text c.args.out.now))

pub write_line-requires : goal.write_line-requires
write_line-requires g c = rw c.texts.ensures (first_has_steps c.in-Some.here (subst HaveSteps c.in-Some.is c.loop-walk.invariant.0))

pub returns-in_err-write_line-clause-printed : goal.returns-in_err-write_line-clause-printed
returns-in_err-write_line-clause-printed g c = λ all goes text log.
    let so_far = subst (IsPrintedTo g.S.Sink.contents g.S.Sink.failure_count c.args.out.now c.loop-walk.out c.args.style.now c.args.walk) c.in-Some.is c.loop-walk.invariant.1 in
    Prints-stopped c.from_residual.result c.from_residual.ensures.1
    (line-stopped c.args.style.now c.args.walk c.in-Some.here so_far all text goes log _ (rw c.texts.ensures at c.in_err-write_line.ensures.printed))

pub returns-in_err-walk-clause-printed : goal.returns-in_err-walk-clause-printed
returns-in_err-walk-clause-printed g c = λ all goes text log.
    let so_far = subst (IsPrintedTo g.S.Sink.contents g.S.Sink.failure_count c.args.out.now c.loop-walk.out c.args.style.now c.args.walk) c.in-Some.is c.loop-walk.invariant.1 in
    Prints-stopped c.from_residual-in_err-walk.result c.from_residual-in_err-walk.ensures.1
    (next-stopped c.args.style.now c.args.walk c.in-Some.here so_far _ c.in_err-walk.ensures.refusals (rw c.texts.ensures at c.in_ok-write_line.ensures.printed) all text goes log)

pub loop-walk-preserved : goal.loop-walk-preserved
loop-walk-preserved g c =
    let so_far = subst (IsPrintedTo g.S.Sink.contents g.S.Sink.failure_count c.args.out.now c.loop-walk.out c.args.style.now c.args.walk) c.in-Some.is c.loop-walk.invariant.1 in (
      next_have_steps c.in-Some.here _ c.in_ok-walk.ensures.others (subst HaveSteps c.in-Some.is c.loop-walk.invariant.0),
      line-printed c.args.style.now c.args.walk c.in-Some.here so_far _ c.in_ok-walk.ensures.others (rw c.texts.ensures at c.in_ok-write_line.ensures.printed),
    )

pub loop-walk-smaller : goal.loop-walk-smaller
loop-walk-smaller g c = rw c.in-Some.is (next_is_less c.in-Some.here _ c.in_ok-walk.ensures.first)

pub returns-clause-printed : goal.returns-clause-printed
returns-clause-printed g c = λ all goes text log.
    let so_far = subst (IsPrintedTo g.S.Sink.contents g.S.Sink.failure_count c.args.out.now c.loop-walk.out c.args.style.now c.args.walk) c.in_default.is c.loop-walk.invariant.1 in
    all_printed c.args.style.now c.args.walk so_far all text goes log
