use Rattle.std.proofs.Common.{◌≡◌, ◌++◌, drop}
use Rattle.rec_text.specs.Elements.{text_of}
use Rattle.rec_edit.specs.proving.Filling.{numbered}
use Rattle.rec_edit.specs.Insertions.{numbered_fields}
use Rattle.rec_edit.proofs.automatic.numbered.append_numbered.Given as goal

abbrev pub invariant-loop-field : goal.invariant-loop-field
invariant-loop-field l = l.out.items ++ text_of (numbered_fields (numbered (drop l.field-index l.fields))) ≡ l.fn.out.items ++ text_of (numbered_fields (numbered l.fields))
