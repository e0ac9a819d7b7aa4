use Rattle.std.proofs.Common.{◌≡◌, ◌∙◌, false, Ok, length, ap, arith, sym, subst}
use Rattle.std.proofs.lemmas.Bool.{eqb-true}
use Rattle.rec_text.specs.Elements.{AreElementsOf, text_of}
use Rattle.rec_check.specs.Stored.{described}
use Rattle.rec_edit.specs.Batch.{AreSteps}
use Rattle.rec_edit.specs.Task.{task_of}
use Rattle.rec_edit.proofs.lemmas.outcomes.BatchLemmas.{tasks_of_one, unruled_steps}
use Rattle.rec_edit.proofs.sound.keep_rules.Goals as goal

pub returns-then-puts_no_descriptor_in-clause-kept : goal.returns-then-puts_no_descriptor_in-clause-kept
returns-then-puts_no_descriptor_in-clause-kept c = λ has made are.
    let elements = c.database.ensures.elements in
    let schema = c.schema.ensures.schema in
    let unforced = c.if-force.false in
    let pieces = c.args.file.now.pieces in
    let alone : length c.args.edits.now ≡ 1 = omega (arith, c.in-len1.len_at_least, c.in-len1.len_below) in
    let tasks = tasks_of_one c.args.edits.now c.edit-item.result alone c.edit-item.is in
    rw unforced (unruled_steps (task_of c.edit-item.result) pieces (described c.args.file.now.schema) made
    (record { read = subst (λ ps. AreElementsOf ps (text_of ps)) elements c.text-text.ensures.whole; is = c.database.ensures.together })
    (c.puts_no_descriptor_in.ensures c.if-puts_no_descriptor_in.true) (rw schema at (ap length (sym c.sets.ensures) ∙ eqb-true (length c.sets.result.now) 1 has))
    (subst (λ ts. AreSteps false ts (text_of pieces) (Ok made)) tasks (rw unforced at are)))
