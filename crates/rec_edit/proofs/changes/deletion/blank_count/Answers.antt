use Rattle.std.proofs.Common.{◌∙◌, rules, tests}
use Rattle.std.proofs.lemmas.Iterator.{YieldsList-from_slice}
use Rattle.std.proofs.lemmas.Iterator.Consumers.{count_from_yields_List}
use Rattle.std.proofs.lemmas.Iterator.Search.{YieldsList-from_take_while}
use Rattle.std.proofs.lemmas.List.Folds.{length-prefix_len}
use Rattle.rec_text.specs.Places.{piece_of}
use Rattle.rec_text.specs.Records.{is_blank_piece}
use Rattle.rec_edit.proofs.lemmas.blocks.DeletionLemmas.{prefix_len-pieces}
use Rattle.rec_edit.proofs.changes.deletion.blank_count.Goals as goal

pub returns : goal.returns
returns c =
    let elements = c.args.elements.now in
    let counted = count_from_yields_List _ _ c.count.ensures.ran (YieldsList-from_take_while _ (λ e. is_blank_piece (piece_of e))
    (YieldsList-from_slice elements cc) c.take_while.ensures.closure c.take_while.ensures.done (λ x b q k. search (rules, tests))) in
    counted ∙ length-prefix_len (λ e. is_blank_piece (piece_of e)) elements ∙ prefix_len-pieces is_blank_piece elements
