use Rattle.std.specs.Prelude.{Ok, Err}
use Rattle.rec_text.specs.Faults.{IsMemoryOr}
use Rattle.rec_tools.specs.Batches.{AreEdits}
use Rattle.rec_tools.specs.proving.Finding.{AreEditsIn}
use Rattle.rec_text.proofs.lemmas.FaultLemmas.{memory_or_weaker}
use Rattle.rec_tools.proofs.lemmas.batches.BatchLemmas.{read_edits, IfOk-weaker, IfErr-weaker}
use Rattle.rec_tools.proofs.lemmas.batches.SameTaskLemmas.{one_answer}
use Rattle.rec_tools.proofs.batches.batch_edits.Goals as goal

pub returns-in-Ok-clause-found : goal.returns-in-Ok-clause-found
returns-in-Ok-clause-found c =
    let pieces = c.in-Ok.database in
    IfOk-weaker (λ edits. AreEditsIn pieces (Ok edits.items)) (λ edits. AreEdits c.args.text.now (Ok edits.items))
    (λ edits found. read_edits c.args.text.now pieces (Ok edits.items) c.in-Ok.ensures.found found)
    c.edits_of.result c.edits_of.ensures.found

pub returns-in-Ok-clause-refused : goal.returns-in-Ok-clause-refused
returns-in-Ok-clause-refused c =
    let pieces = c.in-Ok.database in
    IfErr-weaker (λ fault. IsMemoryOr fault (AreEditsIn pieces (Err fault)))
    (λ fault. IsMemoryOr fault (AreEdits c.args.text.now (Err fault)))
    (λ fault edits. memory_or_weaker fault _ _ (λ edits. read_edits c.args.text.now pieces (Err fault) c.in-Ok.ensures.found edits) edits)
    c.edits_of.result c.edits_of.ensures.refused

pub returns-in-Ok-clause-only : goal.returns-in-Ok-clause-only
returns-in-Ok-clause-only c = one_answer c.args.text.now

pub returns-in-Err-clause-only : goal.returns-in-Err-clause-only
returns-in-Err-clause-only c = one_answer c.args.text.now
