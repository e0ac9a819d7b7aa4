use Rattle.rec_text.proofs.lemmas.ErrorLemmas.{kept_error}
use Rattle.rec_tools.proofs.lemmas.printing.LogLemmas.{walk_has_steps}
use Rattle.rec_tools.proofs.lemmas.printing.ShownLemmas.{log-refused, log-cut_short, log-whole}
use Rattle.rec_tools.proofs.showing.print_edits.Goals as goal

pub returns-in-Err-clause-written : goal.returns-in-Err-clause-written
returns-in-Err-clause-written g c =
    rw c.refused_on.ensures (log-refused c.args.style.now c.args.file.now c.args.history.now c.requires.settled _ _ c.in-Err.ensures.found)

pub write_lines-requires : goal.write_lines-requires
write_lines-requires g c = walk_has_steps c.args.history.now c.args.file.now _ c.in-Ok.ensures.found

pub returns-in_err-write_lines-clause-written : goal.returns-in_err-write_lines-clause-written
returns-in_err-write_lines-clause-written g c =
    rw (kept_error c.from_residual.ensures.1)
    (log-cut_short c.args.style.now c.args.file.now c.args.history.now c.requires.settled _ c.in-Ok.ensures.found _ c.in_err-write_lines.ensures.printed)

pub returns-clause-written : goal.returns-clause-written
returns-clause-written g c =
    log-whole c.args.style.now c.args.file.now c.args.history.now c.requires.settled _ c.in-Ok.ensures.found c.in_ok-write_lines.ensures.printed
