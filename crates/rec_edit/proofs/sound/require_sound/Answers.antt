use Rattle.std.proofs.Common.{subst}
use Rattle.rec_text.specs.Faults.{UnlessMemory}
use Rattle.rec_edit.specs.Outcome.{IsSound}
use Rattle.rec_text.proofs.lemmas.ErrorLemmas.{kept_error}
use Rattle.rec_edit.proofs.lemmas.outcomes.BatchLemmas.{described_parts, unsound_unread}
use Rattle.rec_edit.proofs.sound.require_sound.Goals as goal

pub returns-in_err-file : goal.returns-in_err-file
returns-in_err-file c =
    rw (kept_error c.from_residual.ensures.1) (unsound_unread c.args.text.now c.in_err-file.field-0.0 c.in_err-file.ensures.refused)

pub returns : goal.returns
returns c =
    let there = described_parts c.args.text.now _ c.in_ok-file.ensures.found in
    subst (λ text. UnlessMemory c.require_rules.result (IsSound text)) there.read.joined c.require_rules.ensures
