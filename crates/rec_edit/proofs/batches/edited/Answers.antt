use Rattle.std.proofs.Common.{map, subst}
use Rattle.rec_text.specs.Elements.{AreElementsOf, text_of}
use Rattle.rec_check.specs.Stored.{described}
use Rattle.rec_edit.specs.Batch.{fault_alone}
use Rattle.rec_edit.specs.Task.{task_of}
use Rattle.rec_edit.proofs.lemmas.outcomes.BatchLemmas.{outcome-found, outcome-refusals, outcome-leads, outcome-changes, outcome-whole, outcome-effects}
use Rattle.rec_edit.proofs.lemmas.outcomes.OneOutcomeLemmas.{outcome-only}
use Rattle.rec_edit.proofs.batches.edited.Goals as goal

pub returns-clause-found : goal.returns-clause-found
returns-clause-found c = outcome-found c.args.force (map task_of c.args.edits.now) (text_of c.args.file.pieces) c.outcome.result c.outcome.ensures.made c.outcome.ensures.refused

pub returns-clause-only : goal.returns-clause-only
returns-clause-only c = outcome-only c.args.force (map task_of c.args.edits.now) (text_of c.args.file.pieces) (fault_alone c.outcome.result) (returns-clause-found c)

pub returns-clause-refusals : goal.returns-clause-refusals
returns-clause-refusals c =
    outcome-refusals c.args.force (map task_of c.args.edits.now) (text_of c.args.file.pieces) c.args.file.pieces (described c.args.file.schema)
    (record { read = subst (λ ps. AreElementsOf ps (text_of ps)) c.database.ensures.elements c.text-text.ensures.whole; is = c.database.ensures.together })
    c.outcome.result c.outcome.ensures.refused

pub returns-clause-leads : goal.returns-clause-leads
returns-clause-leads c = outcome-leads c.args.force (map task_of c.args.edits.now) (text_of c.args.file.pieces) c.outcome.result c.outcome.ensures.made

pub returns-clause-changes : goal.returns-clause-changes
returns-clause-changes c = outcome-changes c.args.force (map task_of c.args.edits.now) (text_of c.args.file.pieces) c.outcome.result c.outcome.ensures.made

pub returns-clause-whole : goal.returns-clause-whole
returns-clause-whole c = outcome-whole c.args.force (map task_of c.args.edits.now) (text_of c.args.file.pieces) c.outcome.result c.outcome.ensures.made

pub returns-clause-effects : goal.returns-clause-effects
returns-clause-effects c = outcome-effects c.args.force (map task_of c.args.edits.now) (text_of c.args.file.pieces) c.outcome.result c.outcome.ensures.made
