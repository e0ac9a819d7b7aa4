use Rattle.std.proofs.Common.{rules, tests, ◌∙◌, sym}
use Rattle.std.proofs.lemmas.Iterator.{YieldsList-from_slice}
use Rattle.std.proofs.lemmas.Iterator.Search.{all_from_yields_List}
use Rattle.std.proofs.lemmas.List.Folds.{list_all-map}
use Rattle.rec_text.specs.Canonical.{is_plain_name}
use Rattle.rec_edit.proofs.wording.items_have_plain_names.Goals as goal

pub returns : goal.returns
returns c =
    let items = c.args.items.now in
    all_from_yields_List (λ item. is_plain_name item.name) _ _ _ c.all.ensures.ran (YieldsList-from_slice items cc) (λ x b q k. search (rules, tests))
    ∙ sym (list_all-map is_plain_name (λ item. item.name) items)
