use Rattle.std.proofs.Common.{◌∙◌, ap, sym, subst, arith}
use Rattle.rec_text.specs.Sink.{one_more}
use Rattle.rec_tools.specs.Home.{CountsOne}
use Rattle.rec_tools.proofs.lemmas.calls.MemoryLemmas.{put-short, put-failing}
use Rattle.rec_tools.proofs.memory.MemoryHomeHome.put.Goals as goal

pub returns-in-Some-clause-call : goal.returns-in-Some-clause-call
returns-in-Some-clause-call c =
    let e = c.next_fault.ensures in
    let some = c.in-Some.ensures in
    let p = c.put_first.ensures in
    put-failing c.args.self.now c.next_fault.new.self c.put_first.new.self _
    (record { contents = e.contents; numbered = e.numbered; faults = e.faults; refused = e.refused }) p.numbered p.faults c.put_first.result c.in-Some.left
    (sym some.left) (subst (CountsOne c.args.self.now.failed) (sym p.failed) some.counted) p.put p.cut p.refused

pub returns-in-Err-clause-call : goal.returns-in-Err-clause-call
returns-in-Err-clause-call c =
    let e = c.next_fault.ensures in
    let none = c.in-None.ensures in
    let p = c.in-Err.ensures in
    let same = p.failed ∙ none.counted in
    put-short c.args.self.now c.next_fault.new.self _ _
    (record { contents = e.contents; numbered = e.numbered; faults = e.faults; refused = e.refused }) p.numbered p.faults
    (sym none.left) p.cut p.refused (omega (arith, same, c.saturating_add-self.ensures), c.saturating_add-self.ensures ∙ ap one_more same)
