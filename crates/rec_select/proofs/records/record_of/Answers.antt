use Rattle.std.proofs.Common.{◌∙◌}
use Rattle.rec_text.proofs.lemmas.ListLemmas.{AllByRecursion-get_or}
use Rattle.rec_select.proofs.lemmas.printing.PrintingLemmas.{record_at-within}
use Rattle.rec_select.proofs.records.record_of.Goals as goal

pub part-requires-clause-ordered : goal.part-requires-clause-ordered
part-requires-clause-ordered c = (AllByRecursion-get_or _ c.args.records.now c.args.index _ c.requires.some c.requires.within).0

pub part-requires-clause-within : goal.part-requires-clause-within
part-requires-clause-within c = (AllByRecursion-get_or _ c.args.records.now c.args.index _ c.requires.some c.requires.within).1

pub returns : goal.returns
returns c = c.part.ensures ∙ record_at-within c.args.text.now c.args.records.now c.args.index _ c.requires.some
