use Rattle.std.proofs.Common.{◌≡◌, ◌+◌, drop, length}
use Rattle.rec_text.specs.Elements.{text_of}
use Rattle.rec_text.specs.Places.{pieces_of}
use Rattle.rec_edit.specs.proving.Laying.{own_parts}
use Rattle.rec_edit.proofs.lemmas.blocks.SettingLemmas.{LeadsTo}
use Rattle.rec_edit.proofs.changes.setting.lay_fields.Given as goal

abbrev pub invariant-loop-index : goal.invariant-loop-index
invariant-loop-index l = record {
  leads : LeadsTo l.fn.draft (own_parts l.more l.action l.marks (pieces_of l.fields)) l.draft
      (own_parts l.more l.action (drop l.index l.marks) (drop l.index (pieces_of l.fields)));
  at : l.draft.at + length (text_of (drop l.index (pieces_of l.fields))) ≡ l.fn.draft.at + length (text_of (pieces_of l.fields));
}
