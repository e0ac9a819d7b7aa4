use Rattle.rec_text.specs.Places.{pieces_of}
use Rattle.rec_journal.specs.declared.event.Tool.TheVariants.{RecIns}
use Rattle.rec_tools.specs.Batches.{IsPickOf, AsksTool}
use Rattle.rec_text.proofs.lemmas.ErrorLemmas.{kept_error}
use Rattle.rec_tools.proofs.lemmas.batches.BatchLemmas.{refused_too, insertion_parts}
use Rattle.rec_tools.proofs.batches.insertion.Goals as goal

pub returns-in_err-kind : goal.returns-in_err-kind
returns-in_err-kind c =
    let own = pieces_of c.args.own.now in
    rw (kept_error c.from_residual.ensures.1) (refused_too (IsPickOf own) (AsksTool RecIns own) _
    (λ edit asks. (insertion_parts own edit asks).0) c.in_err-kind.ensures)
