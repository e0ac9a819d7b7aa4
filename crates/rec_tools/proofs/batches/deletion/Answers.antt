use Rattle.rec_text.specs.Places.{pieces_of}
use Rattle.std.proofs.Common.{codes}
use Rattle.rec_journal.specs.declared.event.Tool.TheVariants.{RecDel}
use Rattle.rec_tools.specs.Batches.{HasWord, AsksTool}
use Rattle.rec_text.proofs.lemmas.ErrorLemmas.{kept_error}
use Rattle.rec_tools.proofs.lemmas.batches.BatchLemmas.{refused_too, deletion_parts}
use Rattle.rec_tools.proofs.batches.deletion.Goals as goal

pub returns-in_err-has_word : goal.returns-in_err-has_word
returns-in_err-has_word c =
    let own = pieces_of c.args.own.now in
    rw (kept_error c.from_residual-in_err-has_word.ensures.1) (refused_too (HasWord (codes "Comment") (codes "yes") own) (AsksTool RecDel own) _
    (λ edit asks. (deletion_parts own edit asks).1) c.in_err-has_word.ensures)
