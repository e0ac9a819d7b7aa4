use Rattle.std.proofs.Common.{◌≡◌, [], drop}
use Rattle.rec_diff.specs.Changes.{cut_from, joined}
use Rattle.rec_diff.specs.WholeLines.{lined_from, whole_lines}
use Rattle.rec_diff.specs.proving.Turns.{IsLining, LeadsFrom, open_new, open_old, sites, so_far}
use Rattle.rec_diff.proofs.lining.turns_of.Given as goal

abbrev pub invariant-loop-hunk : goal.invariant-loop-hunk
invariant-loop-hunk l = record {
  sound : IsLining l.texts.before.now l.texts.after.now l.lining;
  leads : LeadsFrom l.texts.before.now l.texts.after.now l.lining (drop l.hunk-index l.hunks);
  found :
      so_far l.texts.before.now l.texts.after.now l.lining
      (joined (lined_from (cut_from l.lining.here.old (drop l.hunk-index l.hunks) (drop l.lining.here.old l.texts.before.now))
      (open_old l.texts.before.now l.texts.after.now l.lining) (open_new l.texts.before.now l.texts.after.now l.lining)))
      ≡ sites [] [] (whole_lines (cut_from 0 l.hunks l.texts.before.now));
}
