use Rattle.rec_tools.proofs.lemmas.runs.PreviewLemmas.{nothing_written}
use Rattle.rec_tools.proofs.preview.write_new.Goals as goal

pub write_diff-requires : goal.write_diff-requires
write_diff-requires g c = record { leads = rw (c.as_slice-steps.ensures, c.as_slice-text.ensures) (rw c.in-Some.is at c.requires) }

pub returns-in-Some-clause-written : goal.returns-in-Some-clause-written
returns-in-Some-clause-written g c = rw c.in-Some.is (rw (c.as_slice-steps.ensures, c.as_slice-text.ensures) at c.write_diff.ensures.written)

pub returns-in-None-clause-written : goal.returns-in-None-clause-written
returns-in-None-clause-written g c = rw c.in-None.is (nothing_written c.args.style.now c.args.file.now c.args.out.now tt)
