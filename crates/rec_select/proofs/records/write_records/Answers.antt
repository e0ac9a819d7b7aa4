use Rattle.std.proofs.Common.{◌∙◌, ap, inl, inr}
use Rattle.rec_text.specs.Records.{AreRecords}
use Rattle.rec_select.specs.Printing.{IsPrinted}
use Rattle.rec_select.proofs.lemmas.printing.PutsLemmas.{PrintsAndCounts-prints, refusals-prints}
use Rattle.rec_select.proofs.lemmas.printing.PrintingLemmas.{SeparatorIs, IsPrinted-blocks, records_within, indexes_within}
use Rattle.rec_select.proofs.records.write_records.Goals as goal
use Rattle.rec_select.proofs.records.write_records.Goals.{then-collapse, else-collapse}

pub write_blocks-requires : goal.write_blocks-requires
write_blocks-requires g c =
    let pieces = c.args.file.now.pieces in
    let records = c.as_slice-records.result.now in
    let elements = c.database-database.ensures.elements in
    let are : AreRecords pieces records = rw (c.as_slice-records.ensures, ← elements) c.records.ensures in
    record {
      within = records_within pieces c.of.result records (c.of.ensures.elements ∙ elements) are;
      indexes = indexes_within pieces c.args.selected.now records c.requires are;
    }

pub returns : goal.returns
returns g c =
    let pieces = c.args.file.now.pieces in
    let selected = c.args.selected.now in
    let shape = c.args.shape.now in
    let collapse = c.args.collapse in
    let separator = c.if-collapse.separator.now in
    let records = c.as_slice-records.result.now in
    let elements = c.database-database.ensures.elements in
    let are : AreRecords pieces records = rw (c.as_slice-records.ensures, ← elements) c.records.ensures in
    let is : SeparatorIs collapse separator =
    elim c.if-collapse.branch [
      | then-collapse w ↦ inl (w.if-collapse.true, ap (λ s. s.now) w.separator-is)
      | else-collapse w ↦ inr (w.if-collapse.false, ap (λ s. s.now) w.separator-is)
    ] in
    let printed = IsPrinted-blocks pieces _ records selected shape collapse separator (c.of.ensures.elements ∙ elements) c.in_default.not-Count is are in
    let answer = c.write_blocks.result in
    let prints = c.write_blocks.ensures in
    record {
      written = PrintsAndCounts-prints _ _ _ _ _ (IsPrinted pieces selected shape collapse) printed answer prints;
      refusals = refusals-prints _ _ _ _ _ answer prints;
      number = λ is. absurd (c.in_default.not-Count is);
    }
