use Rattle.std.proofs.Common.{◌∙◌, ◌++◌, sym, subst, ap}
use Rattle.rec_text.specs.Elements.{text_of}
use Rattle.rec_edit.specs.Blocks.{kept}
use Rattle.rec_edit.specs.Script.{settled}
use Rattle.rec_edit.specs.proving.Laying.{block_at}
use Rattle.rec_edit.proofs.lemmas.scripts.WellFormedLemmas.{AreWhole}
use Rattle.rec_edit.proofs.lemmas.blocks.BlockLemmas.{AreKept-kept, old_pieces-kept}
use Rattle.rec_edit.proofs.lemmas.scripts.ScriptLemmas.{old_pieces-settled}
use Rattle.rec_edit.proofs.lemmas.blocks.LayingLemmas.{AreWhole-between, span-parts}
use Rattle.rec_edit.proofs.laying.lay_record.Goals as goal

pub returns-then-chosen-clause-laid : goal.returns-then-chosen-clause-laid
returns-then-chosen-clause-laid g c = rw c.if-chosen.true c.lay_changed.ensures.laid

pub returns-then-chosen-clause-changed : goal.returns-then-chosen-clause-changed
returns-then-chosen-clause-changed g c = rw c.if-chosen.true c.lay_changed.ensures.changed

pub returns-clause-laid : goal.returns-clause-laid
returns-clause-laid g c =
    let pieces = c.args.database.now in
    let parts = span-parts pieces c.args.own.now c.args.end c.requires.place in
    let block = block_at pieces c.args.own.now c.args.end in
    let all = kept (block.own ++ block.gap) in
    rw c.if-chosen.false (c.in_ok-keep.ensures.carried_out (settled all)
    (AreKept-kept (block.own ++ block.gap) (subst AreWhole parts (AreWhole-between pieces c.args.own.now.start c.args.end c.requires.whole)))
    (c.text_in.ensures ∙ ap text_of (parts ∙ sym (old_pieces-kept (block.own ++ block.gap)) ∙ sym (old_pieces-settled all))))
