use Rattle.std.proofs.Common.{◌≡◌, ◌∙◌, ◌++◌, ℕ, false, List, map, Ok, Err, ap, sym, inr}
use Rattle.std.specs.List.{list_all}
use Rattle.rec_text.specs.Canonical.{is_plain_name}
use Rattle.rec_text.proofs.lemmas.FaultLemmas.{from_fact}
use Rattle.rec_sex.specs.declared.lists.field_list.Item.{Item}
use Rattle.rec_edit.specs.Wording.{unnumbered, written_items, names_of_action, values_of_action, AreItemsFor}
use Rattle.rec_edit.proofs.lemmas.outcomes.WrittenLemmas.{plain_both, plain_neither, if_writable-ok, if_writable-err}
use Rattle.rec_edit.proofs.wording.items_for.Goals as goal
use Rattle.rec_edit.proofs.wording.items_for.Goals.{After-require_written, then-items_have_plain_names, else-items_have_plain_names}

-- the names of the items and that of the action
abbrev names : After-require_written → List (List ℕ)
names c = map (λ item. item.name) c.in_ok-items.items ++ names_of_action c.args.action.now

plain : (c : After-require_written) → c.if-items_have_plain_names.names_are_plain ≡ list_all is_plain_name (names c)
plain c =
    let same : c.items-2.result.now ≡ c.in_ok-items.items = cc in
    let some : List (List ℕ) = map (λ item. item.name) c.in_ok-items.items in
    let more : List (List ℕ) = names_of_action c.args.action.now in
    let first_is : c.items_have_plain_names.result ≡ list_all is_plain_name some =
    c.items_have_plain_names.ensures ∙ ap (λ (items : List Item). list_all is_plain_name (map (λ item. item.name) items)) same in
    elim c.if-items_have_plain_names.branch [
      | then-items_have_plain_names w ↦
          plain_both some more c.if-items_have_plain_names.names_are_plain c.items_have_plain_names.result w.gives_plain_name-names_are_plain.result first_is (cc) (cc)
          w.gives_plain_name-names_are_plain.ensures
      | else-items_have_plain_names w ↦ plain_neither some more c.if-items_have_plain_names.names_are_plain c.items_have_plain_names.result false first_is (cc) (cc)
    ]

-- the items have no number where they may have none
without_number : (c : After-require_written) → Ok c.in_ok-items.items ≡ unnumbered c.args.action.now c.args.list.now c.in_ok-items.items
without_number c = sym (c.in_ok-require_unnumbered.ensures c.in_ok-items.items)

pub returns-in-Err : goal.returns-in-Err
returns-in-Err c =
    let at = (goal.at.returns-in-Err c).After-require_written in
    let fault = c.in-Err.fault in
    let items : List Item = c.in_ok-items.items in
    let values : List (List ℕ) = values_of_action c.args.action.now in
    let refused : Err fault ≡ written_items c.args.action.now items =
    if_writable-err (names at) values items c.require_written.result (c.require_written.ensures (names at) values (plain at) c.gives_foldable_value.ensures) fault c.in-Err.is in
    rw c.unwritten.ensures
    (from_fact fault (AreItemsFor c.args.action.now c.args.list.now (Err fault)) (inr (items, c.in_ok-items.ensures, inr (items, without_number at, refused))))

pub returns-in-Ok : goal.returns-in-Ok
returns-in-Ok c =
    let at = (goal.at.returns-in-Ok c).After-require_written in
    let items : List Item = c.in_ok-items.items in
    let values : List (List ℕ) = values_of_action c.args.action.now in
    inr (
      items,
      c.in_ok-items.ensures,
      inr (
        items,
        without_number at,
        if_writable-ok (names at) values items c.require_written.result (c.require_written.ensures (names at) values (plain at) c.gives_foldable_value.ensures) c.in-Ok.is,
      ),
    )
