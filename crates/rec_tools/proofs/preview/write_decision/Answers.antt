use Rattle.rec_tools.proofs.lemmas.runs.PreviewLemmas.{nothing_written}
use Rattle.rec_tools.proofs.preview.write_decision.Goals as goal

pub returns-in-Stay-clause-written : goal.returns-in-Stay-clause-written
returns-in-Stay-clause-written g c = rw c.in-Stay.is (nothing_written c.args.style.now c.args.file.now c.args.out.now tt)

pub write_new-requires : goal.write_new-requires
write_new-requires g c = rw c.as_ref.ensures.value (rw c.in-Put.is at c.requires)

pub write_diff-requires : goal.write_diff-requires
write_diff-requires g c = record { leads = rw (c.as_slice-steps.ensures, c.as_slice-from.ensures) (rw c.in-Adopt.is at c.requires) }

pub returns-in-Put-clause-written : goal.returns-in-Put-clause-written
returns-in-Put-clause-written g c = rw c.in-Put.is (rw c.as_ref.ensures.value at c.write_new.ensures.written)

pub returns-in-Adopt-clause-written : goal.returns-in-Adopt-clause-written
returns-in-Adopt-clause-written g c = rw c.in-Adopt.is (rw (c.as_slice-steps.ensures, c.as_slice-from.ensures) at c.write_diff.ensures.written)
