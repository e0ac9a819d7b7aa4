use Rattle.std.proofs.Common.{arith}
use Rattle.rec_disk.proofs.lemmas.Calls.{sync_spares}
use Rattle.rec_files.proofs.lemmas.Succeeding.{spared_told}
use Rattle.rec_files.proofs.target.sync_at.Goals as goal

pub returns-in_err-leads_to-clause-succeeds : goal.returns-in_err-leads_to-clause-succeeds
returns-in_err-leads_to-clause-succeeds g c = λ works.
    let looked = c.leads_to.ensures.succeeds (c.sync.ensures.excused works).0 in
    (looked.0, λ given. let failed = looked.1 (spared_told _ _ _ given (λ p. sync_spares p _ _ _ c.sync.result c.sync.ensures.goes)) in grind arith)
