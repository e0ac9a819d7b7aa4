use Rattle.std.proofs.Common.{◌≡◌, ◌++◌, drop}
use Rattle.rec_text.specs.Elements.{text_of}
use Rattle.rec_edit.specs.proving.Laying.{fields_for}
use Rattle.rec_edit.proofs.changes.setting.append_each.Given as goal

abbrev pub invariant-loop-item : goal.invariant-loop-item
invariant-loop-item l = l.out.items ++ text_of (fields_for l.value (drop l.item-index l.items)) ≡ l.fn.out.items ++ text_of (fields_for l.value l.items)
