use Rattle.std.proofs.Common.{◌∙◌}
use Rattle.rec_edit.specs.Rules.{fields_of}
use Rattle.rec_edit.proofs.lemmas.blocks.ReplacementLemmas.{AreLines-fields}
use Rattle.rec_edit.proofs.changes.replacement.ReplacementChange.lay.Goals as goal

pub returns : goal.returns
returns c = c.lay_replaced.ensures (fields_of c.args.self.now.pairs.now) (AreLines-fields c.args.self.now.pairs.now) (c.deref.ensures.value ∙ c.args.self.now.written)
