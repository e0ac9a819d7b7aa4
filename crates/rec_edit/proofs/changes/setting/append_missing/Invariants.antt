use Rattle.std.proofs.Common.{◌≡◌, ◌++◌, drop, filter}
use Rattle.rec_text.specs.Elements.{text_of}
use Rattle.rec_text.specs.Places.{pieces_of}
use Rattle.rec_edit.specs.Rules.{picks_none}
use Rattle.rec_edit.specs.proving.Laying.{fields_for}
use Rattle.rec_edit.proofs.changes.setting.append_missing.Given as goal

abbrev pub invariant-loop-item : goal.invariant-loop-item
invariant-loop-item l =
    l.out.items ++ text_of (fields_for l.value (filter (picks_none (pieces_of l.own)) (drop l.item-index l.items)))
    ≡ l.fn.out.items ++ text_of (fields_for l.value (filter (picks_none (pieces_of l.own)) l.items))
