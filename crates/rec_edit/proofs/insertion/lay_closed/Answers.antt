use Rattle.std.proofs.Common.{◌∙◌, ap, arith, length}
use Rattle.rec_edit.proofs.lemmas.blocks.InsertionLemmas.{before_size, closed_laid}
use Rattle.rec_edit.proofs.insertion.lay_closed.Goals as goal

pub keep-requires : goal.keep-requires
keep-requires c =
    let size = before_size c.args.database.now c.args.place c.requires.whole c.requires.within in
    record { fits = omega (arith, c.requires.fits, size, ap length c.text_in.ensures) }

pub change-requires : goal.change-requires
change-requires c =
    let size = before_size c.args.database.now c.args.place c.requires.whole c.requires.within in
    record { fits = omega (arith, c.in_ok-keep.ensures.reached, c.requires.fits, size, ap length c.text_in.ensures, ap length c.text_in-last.ensures) }

pub returns-clause-laid : goal.returns-clause-laid
returns-clause-laid c =
    closed_laid c.args.database.now c.args.place c.requires.whole c.requires.within c.args.draft.now c.keep.new.self c.change.new.self c.text_in.result.now c.text_in-last.result.now c.deref.result.now
    (omega (arith, c.if-place-eq0.false)) c.text_in.ensures c.text_in-last.ensures (c.deref.ensures.value ∙ c.in_ok-new.ensures) (λ parts. c.in_ok-keep.ensures.carried_out parts)
    (λ part. c.in_ok-change.ensures.carried_out part)

pub returns-clause-reached : goal.returns-clause-reached
returns-clause-reached c =
    let size = before_size c.args.database.now c.args.place c.requires.whole c.requires.within in
    omega (arith, c.in_ok-change.ensures.reached, c.in_ok-keep.ensures.reached, size, ap length c.text_in.ensures, ap length c.text_in-last.ensures)
