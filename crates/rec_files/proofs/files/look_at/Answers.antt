use Rattle.std.proofs.Common.{ap}
use denote.Enum.Declared.{tag_of}
use Rattle.std.proofs.lemmas.Bool.{eqb-false, false≢true}
use Rattle.rec_tools.specs.contracts.home.Which.{the_type}
use Rattle.rec_files.proofs.lemmas.Succeeding.{look_failed}
use Rattle.rec_files.proofs.files.look_at.Goals as goal
use Rattle.rec_files.proofs.files.look_at.Goals.{then-which-eq1+else-may_be_missing, else-which-eq1}

pub returns-in-Err-2-clause-succeeds : goal.returns-in-Err-2-clause-succeeds
returns-in-Err-2-clause-succeeds g c works =
    let opened = c.in-Err.ensures.succeeds works in (
      opened.0,
      λ given.
          look_failed c.args.which c.args.path.now _ _ (g.D.Disk.leads c.args.path.now) _ _ _ given opened.1 c.in-Err.ensures.missing
          (λ journal some missing.
          elim c.if-which-eq1.branch [
            | then-which-eq1+else-may_be_missing w ↦ absurd (false≢true (w.if-may_be_missing.ensures.1 (some, missing)))
            | else-which-eq1 w ↦ absurd (eqb-false _ _ w.if-which-eq1.false (ap (tag_of the_type) journal))
          ]),
    )
