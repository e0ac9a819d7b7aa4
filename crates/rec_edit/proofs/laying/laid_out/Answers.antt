use Rattle.std.proofs.Common.{◌∙◌, List, [], ap, refl, sym, subst, length, arith}
use Rattle.std.proofs.lemmas.List.{drop_all}
use Rattle.rec_text.specs.Elements.{text_of}
use Rattle.rec_text.specs.Records.{elements_in}
use Rattle.rec_edit.specs.Script.{Part, settled}
use Rattle.rec_edit.specs.Blocks.{kept, lead_of, start_of, blocks_of, parts_from, script_of}
use Rattle.rec_edit.specs.proving.Drafts.{IsDraft}
use Rattle.rec_edit.specs.proving.Laying.{is_marked}
use Rattle.rec_edit.proofs.lemmas.scripts.ScriptLemmas.{old_pieces-settled}
use Rattle.rec_edit.proofs.lemmas.blocks.BlockLemmas.{AreKept-kept, old_pieces-kept}
use Rattle.rec_edit.proofs.lemmas.blocks.LayingLemmas.{AreWhole-between, ranges_of_records, lead_first, lead_short, patched}
use Rattle.rec_edit.proofs.laying.laid_out.Goals as goal

pub keep-requires : goal.keep-requires
keep-requires g c =
    let pieces = c.args.database.now in
    let short = lead_short pieces c.args.records.now c.requires.are in
    let text = c.text_in.ensures ∙ ap (λ end. text_of (elements_in pieces (record { start = 0; end = end }))) c.start_at.ensures in
    record { fits = omega (arith, (c.in_ok-draft.ensures []).at, short, ap length text, ap length c.text.ensures.text) }

pub lay_records-requires-clause-ranges : goal.lay_records-requires-clause-ranges
lay_records-requires-clause-ranges g c = ranges_of_records c.args.database.now c.args.records.now c.requires.are

pub lay_records-requires-clause-before : goal.lay_records-requires-clause-before
lay_records-requires-clause-before g c =
    let pieces = c.args.database.now in
    let records = c.args.records.now in
    let made = g.C.Change.made c.args.change.now in
    let chosen = is_marked c.args.marks.now in
    let script : List Part = script_of chosen made pieces records in
    let lead = lead_of pieces records in
    let text = c.text_in.ensures ∙ ap (λ end. text_of (elements_in pieces (record { start = 0; end = end }))) c.start_at.ensures in
    let first = lead_first pieces chosen made c.requires.takes records c.text.ensures.whole (ranges_of_records pieces records c.requires.are) in
    c.in_ok-keep.ensures.carried_out (settled (kept lead)) (AreKept-kept lead (AreWhole-between pieces 0 (start_of pieces records) c.text.ensures.whole))
    (text ∙ ap text_of (sym (old_pieces-kept lead) ∙ sym (old_pieces-settled (kept lead)))) (settled (parts_from chosen made 0 (blocks_of pieces records))) script
    (subst (λ parts. IsDraft c.in_ok-draft.draft parts script) first (c.in_ok-draft.ensures script))

pub returns : goal.returns
returns g c =
    let pieces = c.args.database.now in
    let records = c.args.records.now in
    let made = g.C.Change.made c.args.change.now in
    let chosen = is_marked c.args.marks.now in
    let script : List Part = script_of chosen made pieces records in
    let done : IsDraft c.lay_records.new.draft [] script =
    subst (λ rest. IsDraft c.lay_records.new.draft (settled (parts_from chosen made (length records) (blocks_of pieces rest))) script) (drop_all (length records) records (omega arith))
    c.in_ok-changed.ensures.laid in
    let is = c.in_ok-patch.ensures script done in
    (records, c.requires.are, patched chosen made pieces records _ c.args.selected is.0 is.1 c.in_ok-changed.ensures.changed refl)
