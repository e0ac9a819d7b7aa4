use Rattle.rec_text.specs.Places.{pieces_of}
use Rattle.std.proofs.Common.{Some, codes}
use Rattle.rec_journal.specs.declared.event.Tool.TheVariants.{RecSet}
use Rattle.rec_tools.specs.Batches.{HasOnly, AsksTool}
use Rattle.rec_text.proofs.lemmas.ErrorLemmas.{kept_error}
use Rattle.rec_tools.proofs.lemmas.batches.BatchLemmas.{refused_too, setting_parts}
use Rattle.rec_tools.proofs.batches.setting.Goals as goal

pub returns-in_err-list : goal.returns-in_err-list
returns-in_err-list c =
    let own = pieces_of c.args.own.now in
    rw (kept_error c.from_residual.ensures.1) (refused_too (HasOnly (codes "Fields") own) (AsksTool RecSet own) _
    (λ edit asks. let list = (setting_parts own edit asks).1 in (Some list.0, list.1)) c.in_err-list.ensures)
