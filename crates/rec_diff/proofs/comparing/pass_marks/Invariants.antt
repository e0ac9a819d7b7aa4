use Rattle.std.proofs.Common.{drop}
use Rattle.rec_diff.specs.proving.Cutting.{ArePassed}
use Rattle.rec_diff.proofs.comparing.pass_marks.Given as goal

abbrev pub invariant-loop-mark : goal.invariant-loop-mark
invariant-loop-mark l =
    ArePassed l.texts.before.now l.texts.after.now l.inner.before.now l.inner.after.now l.first l.marks l.fn.lining (drop l.mark-index l.marks) l.lining
