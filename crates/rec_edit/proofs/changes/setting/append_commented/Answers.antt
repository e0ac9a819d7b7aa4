use Rattle.std.proofs.Common.{arith}
use Rattle.std.proofs.lemmas.Bool.Decides.{nat_tests}
use Rattle.rec_text.proofs.lemmas.ListLemmas.{OnOk-appended}
use Rattle.rec_edit.proofs.lemmas.layouts.CommentLemmas.{comment_next, comment_none, comment_last}
use Rattle.rec_edit.proofs.changes.setting.append_commented.Goals as goal

pub loop-line-preserved : goal.loop-line-preserved
loop-line-preserved c =
    comment_next _ _ _ _ _ c.loop-line.invariant c.in-Some.ensures c.in_ok-extend_from_slice.ensures.items c.in_ok-extend_from_slice-2.ensures.items c.in_ok-extend_from_slice-3.ensures.items

pub returns-then-is_empty : goal.returns-then-is_empty
returns-then-is_empty c = comment_none _ c.loop-line.out.items c.loop-line.rest.now c.loop-line.invariant (grind (arith, nat_tests))

pub returns : goal.returns
returns c =
    OnOk-appended _ c.extend_from_slice-2.new.self.items c.loop-line.rest.now _ c.extend_from_slice-3.result c.extend_from_slice-3.ensures.items
    (rw c.in_ok-extend_from_slice-4.ensures.items (comment_last _ c.loop-line.out.items c.loop-line.rest.now c.loop-line.invariant c.in_default.ensures (grind (arith, nat_tests))))
