use Rattle.std.proofs.Common.{◌≡◌, ◌∙◌, ◌+◌, List, length, ap, arith}
use Rattle.std.specs.List.{prefix_len}
use Rattle.rec_text.specs.Elements.{Piece}
use Rattle.rec_text.specs.Records.{is_blank_piece, elements_in}
use Rattle.rec_edit.specs.proving.Laying.{block_at}
use Rattle.rec_edit.proofs.lemmas.blocks.LayingLemmas.{AreWhole-between, length-between}
use Rattle.rec_edit.proofs.lemmas.blocks.DeletionLemmas.{middle_within, deleted_laid}
use Rattle.rec_edit.proofs.changes.deletion.DeletionChange.lay.Goals.{After-blank_count}
use Rattle.rec_edit.proofs.changes.deletion.DeletionChange.lay.Goals as goal

counted : (c : After-blank_count) → c.blank_count.result ≡ prefix_len is_blank_piece (block_at c.args.database.now c.args.own.now c.args.end).gap
counted c =
    c.blank_count.ensures
    ∙ ap (prefix_len is_blank_piece) (c.elements_in-gap.ensures.pieces ∙ ap (λ (p : List Piece). elements_in p (record { start = c.args.own.now.end; end = c.args.end })) c.elements.ensures.pieces)

pub overflow_add-middle : goal.overflow_add-middle
overflow_add-middle c =
    omega (arith, middle_within c.args.database.now c.args.own.now c.args.end c.blank_count.result c.requires.place (counted c), c.ranges.end.fits)

pub text_in-requires-2 : goal.text_in-requires-2
text_in-requires-2 c = middle_within c.args.database.now c.args.own.now c.args.end c.blank_count.result c.requires.place (counted (goal.at.text_in-requires-2 c).After-blank_count)

pub change-requires : goal.change-requires
change-requires c =
    let place = c.requires.place in
    let within = middle_within c.args.database.now c.args.own.now c.args.end c.blank_count.result place (counted (goal.at.change-requires c).After-blank_count) in
    let sizes = length-between c.args.database.now c.args.own.now.start (c.args.own.now.end + c.blank_count.result) c.args.end (omega (arith, place.some)) within place.within in
    record { fits = omega (arith, c.requires.fits, sizes, ap length c.text_in.ensures) }

pub keep-requires : goal.keep-requires
keep-requires c =
    let place = c.requires.place in
    let within = middle_within c.args.database.now c.args.own.now c.args.end c.blank_count.result place (counted (goal.at.keep-requires c).After-blank_count) in
    let sizes = length-between c.args.database.now c.args.own.now.start (c.args.own.now.end + c.blank_count.result) c.args.end (omega (arith, place.some)) within place.within in
    record { fits = omega (arith, c.requires.fits, sizes, ap length c.text_in.ensures, ap length c.text_in-2.ensures, c.in_ok-change.ensures.reached) }

pub returns : goal.returns
returns c =
    let pieces = c.args.database.now in
    deleted_laid pieces c.args.own.now c.args.end c.blank_count.result c.requires.place (counted (goal.at.returns c).After-blank_count) c.args.draft.now c.change.new.self c.keep.new.self _ _
    (AreWhole-between pieces c.args.own.now.start c.args.end c.elements.ensures.whole) c.text_in.ensures c.text_in-2.ensures
    (λ part old new. c.in_ok-change.ensures.carried_out part old new) (λ parts kept text. c.in_ok-keep.ensures.carried_out parts kept text)
