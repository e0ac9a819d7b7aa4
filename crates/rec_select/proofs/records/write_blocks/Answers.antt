use Rattle.std.proofs.Common.{ℕ, List, ap}
use Rattle.rec_select.specs.Selection.{record_at}
use Rattle.rec_select.specs.Printing.{block_of}
use Rattle.rec_select.proofs.lemmas.printing.PutsLemmas.{HasStopped-within, Prints-stopped}
use Rattle.rec_select.proofs.lemmas.printing.PrintingLemmas.{separated_rest}
use Rattle.rec_select.proofs.records.write_blocks.Goals as goal

pub returns-in_err-write_block : goal.returns-in_err-write_block
returns-in_err-write_block g c =
    let block : ℕ → List ℕ = λ i. block_of c.args.shape.now (record_at c.args.text.now c.args.records.now i) in
    let part = ap (block_of c.args.shape.now) c.record_of-record.ensures in
    let rest = separated_rest c.args.separator.now block c.args.selected.now c.loop-index.index-index c.loop-index-test.true _ _ c.loop-index.invariant.next part in
    Prints-stopped c.from_residual.result c.from_residual.ensures.1
    (HasStopped-within _ rest.0 rest.1 c.loop-index.invariant.printed c.in_err-write_block.ensures.printed)
