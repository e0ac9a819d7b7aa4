use Rattle.std.proofs.Common.{ap, sym, ◌∙◌}
use Rattle.rec_tools.specs.Outcomes.{outcome_of}
use Rattle.rec_text.proofs.lemmas.ErrorLemmas.{kept_error}
use Rattle.rec_tools.proofs.lemmas.outcomes.DecideLemmas.{move-no_opening, move-missing, move-refused, move-planned, move-course, move-has_edit}
use Rattle.rec_tools.proofs.decision.decide_move.Goals as goal

pub returns-in_err-history-clause-found : goal.returns-in_err-history-clause-found
returns-in_err-history-clause-found c =
    rw (kept_error c.from_residual.ensures.1) (move-no_opening c.args.file.now c.args.journal.now c.args.direction c.args.through _ c.in_err-history.ensures)

pub returns-then-lacks-clause-found : goal.returns-then-lacks-clause-found
returns-then-lacks-clause-found c =
    rw c.refused_move.ensures (move-missing c.args.file.now c.args.journal.now c.args.direction c.args.through _ c.in_ok-history.ensures (sym c.if-lacks.true ∙ c.lacks.ensures))

pub returns-in-Err-clause-found : goal.returns-in-Err-clause-found
returns-in-Err-clause-found c =
    rw c.refused_move-in-Err.ensures (move-refused c.args.file.now c.args.journal.now c.args.direction c.args.through _ c.in_ok-history.ensures
    (sym c.lacks.ensures ∙ c.if-lacks.false) _ c.in-Err.ensures.plan.found)

pub returns-in-Some-clause-found : goal.returns-in-Some-clause-found
returns-in-Some-clause-found c =
    move-planned c.args.file.now c.args.journal.now c.args.direction c.args.through _ c.in_ok-history.ensures (sym c.lacks.ensures ∙ c.if-lacks.false)
    _ c.in-Ok.ensures.plan.found c.in-Ok.ensures.plan.safe _ _ c.in-Ok.ensures.nearest _ c.reply_of-reply.ensures _ (ap outcome_of c.put_plan.ensures)

pub returns-in-Some-clause-course : goal.returns-in-Some-clause-course
returns-in-Some-clause-course c =
    let (e, nearest, steps) = c.in-Some.ensures in
    move-course c.args.file.now c.args.journal.now c.args.direction c.args.through _ c.in_ok-history.ensures _ c.in-Ok.ensures.plan.found
    c.in-Ok.ensures.plan.safe _ e nearest steps _ _ c.put_plan.ensures

pub returns-in-None : goal.returns-in-None
returns-in-None c =
    absurd (move-has_edit c.args.file.now c.args.journal.now c.args.direction c.args.through _ c.in_ok-history.ensures _ c.in-Ok.ensures.plan.found c.in-None.ensures)
