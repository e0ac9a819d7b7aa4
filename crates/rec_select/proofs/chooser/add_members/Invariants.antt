use Rattle.std.proofs.Common.{◌≡◌, ◌+◌}
use Rattle.rec_select.specs.proving.Filters.{stands_for}
use Rattle.rec_select.proofs.lemmas.selection.SelectionLemmas.{IsChosenUpTo}
use Rattle.rec_select.proofs.chooser.add_members.Given as goal

abbrev pub invariant-loop-index : goal.invariant-loop-index
invariant-loop-index l = record {
  can : (goal.iterator-loop-index).can_next l.index-iterator;
  finite : (goal.iterator-loop-index).is_finite l.index-iterator;
  same : stands_for l.filter ≡ stands_for l.fn.filter;
  so_far : IsChosenUpTo l.file.pieces l.members (stands_for l.fn.filter) l.index-iterator.iter.count l.index-iterator.iter.iter l.selected.items;
  ends : l.index-iterator.iter.count + l.index-iterator.n ≡ l.members.end;
}
