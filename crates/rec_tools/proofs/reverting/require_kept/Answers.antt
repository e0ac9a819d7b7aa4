use Rattle.std.proofs.Common.{refl, subst}
use Rattle.rec_text.specs.Faults.{UnlessMemory}
use Rattle.rec_edit.specs.Outcome.{IsSound}
use Rattle.rec_tools.specs.Reverting.{unread}
use Rattle.rec_tools.proofs.lemmas.outcomes.DecideLemmas.{read_file}
use Rattle.rec_tools.proofs.lemmas.outcomes.LeftLemmas.{unread_is, not_kept, kept_forced, kept_sound}
use Rattle.rec_tools.proofs.reverting.require_kept.Goals as goal

pub returns-in-Err-clause-found : goal.returns-in-Err-clause-found
returns-in-Err-clause-found c =
    rw (c.unread.ensures, c.from.ensures) (not_kept c.args.force c.args.text.now (unread c.in-Err.refusal) (unread_is c.args.text.now c.in-Err.refusal c.in-Err.ensures.refused))

pub returns-then-force-clause-found : goal.returns-then-force-clause-found
returns-then-force-clause-found c = kept_forced c.args.text.now _ c.in-Ok.ensures.found c.args.force c.if-force.true

pub returns-clause-found : goal.returns-clause-found
returns-clause-found c =
    kept_sound c.args.text.now _ c.in-Ok.ensures.found c.args.force c.if-force.false c.require_rules.result
    (subst (λ text. UnlessMemory c.require_rules.result (IsSound text)) (read_file c.args.text.now c.args.text.now refl _ c.in-Ok.ensures.found) c.require_rules.ensures)
