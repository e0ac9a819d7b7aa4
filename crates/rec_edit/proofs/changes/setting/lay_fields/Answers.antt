use Rattle.std.proofs.Common.{◌∙◌, ◌+◌, [], refl, ap, arith, drop, length}
use Rattle.rec_text.specs.declared.element.Element.{Element}
use Rattle.rec_text.specs.declared.element.Kind.TheVariants.{Blank}
use Rattle.rec_text.specs.Elements.{text_of}
use Rattle.rec_text.specs.Places.{pieces_of}
use Rattle.rec_edit.proofs.lemmas.blocks.SettingLemmas.{field_laid, field_size, fields_done}
use Rattle.rec_edit.proofs.changes.setting.lay_fields.Goals as goal

pub change-requires : goal.change-requires
change-requires c =
    let d : Element = record { kind = Blank; at = 0; raw = record { ref_ptr = (0, 0); now = [] } } in
    let size = field_size c.args.more c.args.action.now c.args.marks.now c.args.fields.now c.loop-index.index d c.loop-index-test.true c.requires.marks
    c.loop-index.draft.at _ c.loop-index.invariant.at in
    record { fits = omega (arith, size, c.requires.fits) }

pub loop-index-preserved : goal.loop-index-preserved
loop-index-preserved c =
    let d : Element = record { kind = Blank; at = 0; raw = record { ref_ptr = (0, 0); now = [] } } in
    let rest = length (text_of (drop (c.loop-index.index + 1) (pieces_of c.args.fields.now))) in
    record {
      leads = field_laid c.args.more c.args.action.now c.args.marks.now c.args.fields.now c.loop-index.index d c.loop-index-test.true c.requires.marks
          c.args.draft.now c.loop-index.draft c.change.new.self _
          _ c.deref.result.now c.loop-index.invariant.leads refl (c.deref.ensures.value ∙ c.in_ok-write_settled.ensures) (λ part old new. c.in_ok-change.ensures.carried_out part old new);
      at = ap (λ n. n + rest) c.in_ok-change.ensures.reached
          ∙ field_size c.args.more c.args.action.now c.args.marks.now c.args.fields.now c.loop-index.index d c.loop-index-test.true c.requires.marks c.loop-index.draft.at _ c.loop-index.invariant.at;
    }

pub returns-clause-laid : goal.returns-clause-laid
returns-clause-laid c =
    fields_done c.args.more c.args.action.now c.args.marks.now c.args.fields.now c.loop-index.index c.args.draft.now c.loop-index.draft _ c.loop-index-test.false c.loop-index.invariant.leads
