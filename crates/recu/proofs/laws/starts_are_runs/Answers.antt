use Rattle.recu.proofs.StartLemmas as lemma
use Rattle.recu.proofs.laws.starts_are_runs.Goals as goal

pub returns : goal.returns
returns g c = record { guarantee = lemma.starts_are_runs _ g.D.Disk }
