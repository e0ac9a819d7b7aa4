use Rattle.rec_text.specs.Places.{pieces_of}
use Rattle.std.proofs.Common.{codes}
use Rattle.rec_tools.specs.Batches.{HasOnly, IsBy, EditsRecords}
use Rattle.rec_text.proofs.lemmas.ErrorLemmas.{kept_error}
use Rattle.rec_tools.proofs.lemmas.batches.BatchLemmas.{refused_too, tool_part}
use Rattle.rec_tools.proofs.batches.tool_of.Goals as goal

pub returns-in_err-word : goal.returns-in_err-word
returns-in_err-word c =
    let own = pieces_of c.args.own.now in
    rw (kept_error c.from_residual.ensures.1) (refused_too (HasOnly (codes "Tool") own) (λ tool. IsBy tool own × EditsRecords tool) _
    (tool_part own) c.in_err-word.ensures)
