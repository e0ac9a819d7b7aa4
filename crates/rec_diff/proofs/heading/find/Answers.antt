use Rattle.rec_diff.proofs.lemmas.HeadingLemmas.{HasFound-none, HasFound-more, HasFound-all}
use Rattle.rec_diff.proofs.heading.find.Goals as goal

pub loop-line-init : goal.loop-line-init
loop-line-init c = HasFound-none c.args.found.now c.args.text.now

pub loop-line-preserved : goal.loop-line-preserved
loop-line-preserved c = HasFound-more _ _ _ c.loop-line.invariant c.in-Some.ensures c.found_at-field.ensures

pub returns : goal.returns
returns c = HasFound-all c.loop-line.invariant c.in_default.ensures
