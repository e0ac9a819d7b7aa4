use Rattle.std.proofs.Common.{◌≡◌, ◌∙◌, List, ap, arith, subst, sym}
use Rattle.std.proofs.lemmas.Result.{IfOk-weaker}
use Rattle.rec_journal.specs.declared.event.EditStep.{EditStep}
use Rattle.rec_journal.specs.Revisions.{joined_steps, step_lists}
use Rattle.rec_diff.specs.proving.Moving.{AreTurnable, turns_after}
use Rattle.rec_diff.specs.proving.Weaving.{at_start}
use Rattle.rec_diff.proofs.lemmas.reverting.FoundLemmas.{cuts_found, cuts_turnable}
use Rattle.rec_diff.proofs.reverting.edits.Edits.later_cuts.Goals as goal

pub cuts_of-requires : goal.cuts_of-requires
cuts_of-requires c =
    let edits = c.args.self in
    let steps : List EditStep = joined_steps (step_lists edits.later.now) in
    subst (AreTurnable at_start) (sym c.deref.ensures.value)
    (cuts_turnable steps c.in_ok-hunks.hunks.items edits.after.now edits.here.now c.requires c.in_ok-hunks.ensures.composed (omega arith) (omega arith))

pub returns : goal.returns
returns c =
    let edits = c.args.self in
    let steps : List EditStep = joined_steps (step_lists edits.later.now) in
    IfOk-weaker c.cuts_of.result (λ turns. turns.items ≡ turns_after at_start c.deref.result.now) _
    (λ turns are. cuts_found steps c.in_ok-hunks.hunks.items edits.after.now edits.here.now c.requires c.in_ok-hunks.ensures.composed turns.items
    (are ∙ ap (turns_after at_start) c.deref.ensures.value)) c.cuts_of.ensures
