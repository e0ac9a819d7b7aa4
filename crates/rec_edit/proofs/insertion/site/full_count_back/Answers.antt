use Rattle.std.proofs.Common.{◌∙◌, ap, rules, tests, reverse}
use Rattle.std.specs.List.{prefix_len}
use Rattle.std.proofs.lemmas.Iterator.Adapters.{YieldsList-from_rev_slice}
use Rattle.std.proofs.lemmas.Iterator.Consumers.{count_from_yields_List}
use Rattle.std.proofs.lemmas.Iterator.Search.{YieldsList-from_take_while}
use Rattle.std.proofs.lemmas.List.Folds.{length-prefix_len}
use Rattle.rec_text.specs.Places.{piece_of}
use Rattle.rec_edit.specs.Insertions.{is_full}
use Rattle.rec_edit.proofs.lemmas.blocks.DeletionLemmas.{prefix_len-pieces}
use Rattle.rec_edit.proofs.lemmas.insertions.SiteLemmas.{map-reverse}
use Rattle.rec_edit.proofs.insertion.site.full_count_back.Goals as goal

pub returns : goal.returns
returns c =
    let elements = c.args.elements.now in
    let counted = count_from_yields_List _ _ c.count.ensures.ran (YieldsList-from_take_while _ (λ e. is_full (piece_of e))
    (YieldsList-from_rev_slice elements cc) c.take_while.ensures.closure c.take_while.ensures.done (λ x b q k. search (rules, tests))) in
    counted ∙ length-prefix_len (λ e. is_full (piece_of e)) (reverse elements) ∙ prefix_len-pieces is_full (reverse elements) ∙ ap (prefix_len is_full) (map-reverse piece_of elements)
