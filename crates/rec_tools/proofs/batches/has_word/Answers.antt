use Rattle.rec_text.specs.Places.{pieces_of}
use Rattle.rec_tools.specs.Batches.{HasOnly, HasWord}
use Rattle.rec_text.proofs.lemmas.ErrorLemmas.{kept_error}
use Rattle.rec_tools.proofs.lemmas.batches.BatchLemmas.{refused_too, word_part}
use Rattle.rec_tools.proofs.batches.has_word.Goals as goal

pub returns-in_err-value : goal.returns-in_err-value
returns-in_err-value c =
    let own = pieces_of c.args.own.now in
    rw (kept_error c.from_residual.ensures.1) (refused_too (HasOnly c.args.name.now own) (HasWord c.args.name.now c.args.word.now own) _
    (word_part c.args.name.now c.args.word.now own) c.in_err-value.ensures)
