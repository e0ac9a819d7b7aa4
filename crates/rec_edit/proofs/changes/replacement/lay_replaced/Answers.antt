use Rattle.std.proofs.Common.{ap, arith, length, subst}
use Rattle.rec_edit.specs.proving.Laying.{block_at}
use Rattle.rec_edit.proofs.lemmas.scripts.WellFormedLemmas.{AreWhole}
use Rattle.rec_edit.proofs.lemmas.blocks.LayingLemmas.{AreWhole-between, length-between, length-elements, span-parts}
use Rattle.rec_edit.proofs.lemmas.blocks.ReplacementLemmas.{replaced_laid}
use Rattle.rec_edit.proofs.changes.replacement.lay_replaced.Goals as goal

pub change-requires : goal.change-requires
change-requires c =
    let place = c.requires.place in
    let sizes = length-between c.args.database.now c.args.own.now.start c.args.own.now.end c.args.end (omega (arith, place.some)) place.ordered place.within in
    record { fits = omega (arith, c.requires.fits, sizes, ap length c.text_in-old.ensures) }

pub keep-requires : goal.keep-requires
keep-requires c =
    let place = c.requires.place in
    let sizes = length-between c.args.database.now c.args.own.now.start c.args.own.now.end c.args.end (omega (arith, place.some)) place.ordered place.within in
    record { fits = omega (arith, c.requires.fits, sizes, ap length c.text_in-old.ensures, ap length c.text_in.ensures, c.in_ok-change.ensures.reached) }

pub returns : goal.returns
returns c = λ new lines new_is.
    let pieces = c.args.database.now in
    let place = c.requires.place in
    let block = block_at pieces c.args.own.now c.args.end in
    let whole = subst AreWhole (span-parts pieces c.args.own.now c.args.end place) (AreWhole-between pieces c.args.own.now.start c.args.end c.requires.whole) in
    let size = length-elements pieces c.args.own.now.start c.args.own.now.end (omega (arith, place.some)) (omega (arith, place.ordered, place.within)) in
    replaced_laid block.own block.gap new c.args.draft.now c.change.new.self c.keep.new.self c.text_in-old.result.now c.args.new.now _ c.text_in.result.now
    (omega (arith, size, place.some)) whole lines
    c.text_in-old.ensures new_is c.as_ended.ensures c.text_in.ensures (λ part old text. c.in_ok-change.ensures.carried_out part old text)
    (λ parts kept text. c.in_ok-keep.ensures.carried_out parts kept text)
