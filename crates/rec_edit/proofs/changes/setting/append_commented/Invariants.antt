use Rattle.std.proofs.Common.{◌≡◌, ◌++◌, length}
use Rattle.rec_text.specs.Elements.{text_of}
use Rattle.rec_edit.specs.Rules.{comments_of}
use Rattle.rec_edit.proofs.changes.setting.append_commented.Given as goal

abbrev pub invariant-loop-line : goal.invariant-loop-line
invariant-loop-line l = l.out.items ++ text_of (comments_of l.rest) ≡ l.fn.out.items ++ text_of (comments_of l.text)

abbrev pub decreases-loop-line : goal.decreases-loop-line
decreases-loop-line l = length l.rest
