use Rattle.std.proofs.Common.{◌≡◌, subst, sym, Ok}
use Rattle.rec_check.specs.Stored.{described}
use Rattle.rec_select.specs.Selection.{AreSelected, filter_of, set_for}
use Rattle.rec_select.proofs.lemmas.selection.IndexLemmas.{selected_are_records}
use Rattle.rec_select.proofs.lemmas.selection.SelectionLemmas.{members_within, one_selection}
use Rattle.rec_select.proofs.chooser.choose.Goals as goal
use Rattle.rec_select.proofs.chooser.choose.Goals.{In_ok-set}

found : (c : In_ok-set) → set_for c.args.selection.now.kind c.args.file.now.schema.sets.items ≡ Ok c.in_ok-set.set.now
found c = subst (λ schema. set_for c.args.selection.now.kind schema.sets.items ≡ Ok c.in_ok-set.set.now) c.schema.ensures.schema c.in_ok-set.ensures.set

pub add_members-requires-clause-within : goal.add_members-requires-clause-within
add_members-requires-clause-within c = λ records are.
    members_within _ _ records _ _ c.schema.ensures.together are (found (goal.at.add_members-requires-clause-within c).In_ok-set)

pub returns-clause-selected : goal.returns-clause-selected
returns-clause-selected c = (
  c.in_ok-set.set.now,
  found (goal.at.returns-clause-selected c).In_ok-set,
  subst (λ wanted. AreSelected c.args.file.now.pieces c.in_ok-set.set.now wanted c.add_members.new.selected.items) c.in_ok-filter.ensures.filter c.in_ok-add_members.ensures.selected,
)

pub returns-clause-only : goal.returns-clause-only
returns-clause-only c = λ other is.
    sym (one_selection c.args.file.now.pieces c.args.file.now.schema.sets.items c.args.selection.now.kind (filter_of c.args.selection.now.by) (Ok c.add_members.new.selected.items) other
    (returns-clause-selected c) is)

pub returns-clause-indexes : goal.returns-clause-indexes
returns-clause-indexes c =
    selected_are_records c.args.file.now.pieces (described c.args.file.now.schema) c.args.selection.now.kind
    (filter_of c.args.selection.now.by) c.add_members.new.selected.items c.schema.ensures.together (returns-clause-selected c)
