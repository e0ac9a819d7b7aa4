use Rattle.std.proofs.Common.{◌∙◌, drop, ap, ap₂, arith}
use Rattle.std.proofs.lemmas.List.{take_rest}
use Rattle.rec_diff.specs.WholeLines.{same_start, same_end}
use Rattle.rec_diff.proofs.lemmas.LiningLemmas.{is_trimmed}
use Rattle.rec_diff.proofs.lining.Lining.trimmed.Goals as goal

pub returns : goal.returns
returns c =
    let l = c.args.self.now in
    let s = c.requires in
    let a = s.line_old in
    let b = s.here_old in
    let d = s.line_new in
    let e = s.here_new in
    let o = c.old_of-old.ensures.part in
    let n = c.new_of-new.ensures.part in
    let k = c.same_start-first.result in
    is_trimmed _ _ l.start l.line s.start_old (omega arith) s.start_new (omega arith) k c.same_end-last.result
    (c.same_start-first.ensures.count ∙ ap₂ same_start o n)
    (c.same_end-last.ensures.count ∙ ap₂ same_end (take_rest _ k ∙ ap (drop k) o) (take_rest _ k ∙ ap (drop k) n))
