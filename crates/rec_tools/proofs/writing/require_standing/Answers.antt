use Rattle.std.proofs.Common.{refl, subst}
use Rattle.rec_text.specs.Faults.{UnlessMemory}
use Rattle.rec_text.proofs.lemmas.ErrorLemmas.{kept_error}
use Rattle.rec_edit.specs.Outcome.{IsSound}
use Rattle.rec_tools.proofs.lemmas.outcomes.DecideLemmas.{read_file}
use Rattle.rec_tools.proofs.lemmas.outcomes.WriteLemmas.{unread, stands_forced, stands_sound}
use Rattle.rec_tools.proofs.writing.require_standing.Goals as goal

pub returns-in_err-read-clause-found : goal.returns-in_err-read-clause-found
returns-in_err-read-clause-found c = rw (kept_error c.from_residual.ensures.1) (unread c.args.force c.args.text.now _ c.in_err-read.ensures.refused)

pub returns-then-force-clause-found : goal.returns-then-force-clause-found
returns-then-force-clause-found c = stands_forced c.args.force c.args.text.now _ c.in_ok-read.ensures.found c.if-force.true

pub returns-clause-found : goal.returns-clause-found
returns-clause-found c =
    stands_sound c.args.force c.args.text.now _ c.in_ok-read.ensures.found c.if-force.false c.require_rules.result
    (subst (λ text. UnlessMemory c.require_rules.result (IsSound text)) (read_file c.args.text.now c.args.text.now refl _ c.in_ok-read.ensures.found) c.require_rules.ensures)
