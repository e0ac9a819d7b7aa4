use Rattle.std.proofs.Common.{◌∙◌, ◌++◌, ap, arith, length, subst}
use Rattle.rec_text.specs.Elements.{text_of}
use Rattle.rec_edit.specs.Insertions.{fields_at}
use Rattle.rec_edit.specs.proving.Filling.{filled_of}
use Rattle.rec_edit.specs.proving.Laying.{block_at}
use Rattle.rec_edit.proofs.lemmas.automatic.AutoFillLemmas.{filled_laid}
use Rattle.rec_edit.proofs.lemmas.automatic.FillLemmas.{AreLines-at}
use Rattle.rec_edit.proofs.lemmas.blocks.LayingLemmas.{AreWhole-between, span-parts}
use Rattle.rec_edit.proofs.lemmas.scripts.WellFormedLemmas.{AreWhole}
use Rattle.rec_edit.proofs.automatic.filling.FillingChange.lay.Goals as goal

pub put-requires : goal.put-requires
put-requires c = record { fits = omega (arith, c.requires.fits) }

pub keep-requires : goal.keep-requires
keep-requires c = record { fits = omega (arith, c.requires.fits, c.in_ok-put.ensures.reached, ap length c.text_in.ensures) }

pub returns : goal.returns
returns c =
    let pieces = c.args.database.now in
    let block = block_at pieces c.args.own.now c.args.end in
    let parts = span-parts pieces c.args.own.now c.args.end c.requires.place in
    let filled = filled_of c.args.self.now.filled.now in
    let new = fields_at filled c.args.index in
    let text = c.deref.ensures.value ∙ c.in_ok-append_given.ensures ∙ ap (λ t. t ++ text_of new) c.new-new.ensures.items in
    filled_laid block.own block.gap new c.args.draft.now c.put.new.self c.keep.new.self c.text_in.result.now
    (subst AreWhole parts (AreWhole-between pieces c.args.own.now.start c.args.end c.requires.whole)) (c.text_in.ensures ∙ ap text_of parts)
    (c.in_ok-put.ensures.carried_out new (AreLines-at filled c.args.index) text) (λ parts kept is. c.in_ok-keep.ensures.carried_out parts kept is)
