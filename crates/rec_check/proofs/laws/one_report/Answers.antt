use Rattle.rec_check.proofs.lemmas.laws.OneReportLemmas as lemma
use Rattle.rec_check.proofs.laws.one_report.Goals as goal

pub returns : goal.returns
returns c = lemma.one_report
