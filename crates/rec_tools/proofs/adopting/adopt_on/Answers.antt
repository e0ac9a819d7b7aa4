use Rattle.std.proofs.Common.{◌∙◌, sym, refl, Some, None}
use Rattle.rec_text.proofs.lemmas.ErrorLemmas.{kept_error}
use Rattle.rec_tools.proofs.lemmas.outcomes.AdoptLemmas.{adoption-no_opening, nothing_to_adopt, adoption_decided}
use Rattle.rec_tools.proofs.adopting.adopt_on.Goals as goal

pub returns-in_err-history-clause-found : goal.returns-in_err-history-clause-found
returns-in_err-history-clause-found c =
    rw (kept_error c.from_residual.ensures.1) (adoption-no_opening c.args.file.now c.args.journal.now c.args.old.now _ c.in_err-history.ensures.found)

pub returns-then-not-is_drifted-clause-found : goal.returns-then-not-is_drifted-clause-found
returns-then-not-is_drifted-clause-found c =
    nothing_to_adopt c.args.file.now c.args.journal.now c.args.old.now c.in_ok-history.history c.in_ok-history.ensures.found
    (sym c.is_drifted.ensures ∙ c.if-not-is_drifted.true)

pub returns-in-Some-clause-found : goal.returns-in-Some-clause-found
returns-in-Some-clause-found c =
    rw c.in-Some.is (adoption_decided c.args.file.now c.args.journal.now c.in_ok-history.history c.in_ok-history.ensures.found
    (sym c.is_drifted.ensures ∙ c.if-not-is_drifted.false) (Some c.in-Some.text) c.in_ok-old-in-Some.old (c.in_ok-old-in-Some.ensures ∙ c.as_slice.ensures) _ c.adopt_from.ensures.found)

pub returns-clause-found : goal.returns-clause-found
returns-clause-found c =
    rw c.in-None.is (adoption_decided c.args.file.now c.args.journal.now c.in_ok-history.history c.in_ok-history.ensures.found
    (sym c.is_drifted.ensures ∙ c.if-not-is_drifted.false) None c.args.file.now refl _ c.adopt_from-in-None.ensures.found)
