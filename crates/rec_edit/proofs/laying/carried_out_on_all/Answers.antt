use Rattle.std.proofs.Common.{length, None, sym, subst}
use Rattle.std.proofs.lemmas.Result.{IfOk-weaker}
use Rattle.rec_text.specs.Records.{AreRecords}
use Rattle.rec_edit.specs.proving.Laying.{AreAllMarked, IsMadeOf, is_marked}
use Rattle.rec_edit.proofs.lemmas.blocks.LayingLemmas.{made_as_all}
use Rattle.rec_edit.proofs.laying.carried_out_on_all.Goals as goal

pub laid_out-requires-clause-are : goal.laid_out-requires-clause-are
laid_out-requires-clause-are g c = subst (AreRecords c.database-database.result.now) (sym c.as_slice-records.ensures) c.records.ensures

pub returns : goal.returns
returns g c =
    let made = g.C.Change.made c.args.change.now in
    let pieces = c.args.file.now.pieces in
    let records = c.records.result in
    let marks = c.in_ok-marks.marks.items in
    let are = subst (λ p. AreRecords p records) c.database-database.ensures.elements c.records.ensures in
    let marked = subst (λ rs. AreAllMarked marks (length rs)) c.as_slice-records.ensures c.in_ok-marks.ensures in
    IfOk-weaker c.laid_out.result _ _
    (λ edited is. made_as_all None made pieces edited marks c.deref.result.now records are c.deref.ensures.value marked
    (subst (λ p. IsMadeOf p None (is_marked c.deref.result.now) made edited) c.database-database.ensures.elements is)) c.laid_out.ensures
