use Rattle.std.proofs.Common.{inl, inr, subst, string_bytes, option_map, Err}
use Rattle.rec_text.proofs.lemmas.ErrorLemmas.{kept_error}
use Rattle.recu.specs.Answers.{ArePathsOf}
use Rattle.recu.proofs.commanding.task_of.Goals as goal

pub returns-in_err-paths-clause-refused : goal.returns-in_err-paths-clause-refused
returns-in_err-paths-clause-refused g c =
    rw (kept_error c.from_residual-in_err-paths.ensures.1) (inr (
      c.in_ok-job.job,
      c.in_ok-job.ensures.job,
      inl (subst (λ story. ArePathsOf g.D.Disk story (option_map string_bytes c.args.line.file) c.args.line.journal (Err c.in_err-paths.field-0.0))
          c.in_ok-job.ensures.same c.in_err-paths.ensures.refused),
    ))

pub returns-in_err-require_text-clause-refused : goal.returns-in_err-require_text-clause-refused
returns-in_err-require_text-clause-refused g c =
    rw (kept_error c.from_residual-in_err-require_text.ensures.1) (inr (c.in_ok-job.job, c.in_ok-job.ensures.job, inr c.in_err-require_text.ensures.refused))
