use Rattle.std.proofs.Common.{◌∙◌}
use Rattle.rec_edit.proofs.lemmas.blocks.LayingLemmas.{compared}
use Rattle.rec_edit.proofs.laying.lay_changed.Goals as goal

pub returns-clause-changed : goal.returns-clause-changed
returns-clause-changed g c = λ rest whole is.
    c.ne.ensures
    ∙ compared c.args.database.now (g.C.Change.made c.args.change.now) c.args.index c.args.own.now c.args.end c.len-start.result c.args.draft.now c.lay.new.draft c.text_in.result.now
    c.since.result.now rest whole
    c.requires.takes c.requires.place is (c.in_ok-lay.ensures rest whole is) c.len-start.ensures c.since.ensures c.text_in.ensures
