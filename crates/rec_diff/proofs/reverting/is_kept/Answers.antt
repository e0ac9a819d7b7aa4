use Rattle.std.proofs.Common.{◌∙◌, ◌==◌, ap, length, subst, sym}
use Rattle.std.proofs.lemmas.Bool.{false≢true}
use Rattle.std.proofs.lemmas.Result.{IfOk-weaker}
use Rattle.rec_text.proofs.lemmas.ErrorLemmas.{kept_error}
use Rattle.rec_journal.specs.Patch.{Splices}
use Rattle.rec_diff.specs.Strands.{ahead_in, back_in}
use Rattle.rec_diff.proofs.lemmas.reverting.TakingLemmas.{refused_memory, some_hunks, taken_is_led, taken_led, taken_leads, taken_text}
use Rattle.rec_diff.proofs.reverting.is_kept.Goals as goal

pub returns-in_err-left-clause-refusals : goal.returns-in_err-left-clause-refusals
returns-in_err-left-clause-refusals c =
    let taken = c.requires.taken in
    rw (kept_error c.from_residual.ensures.1)
    (refused_memory (Splices c.args.patch.now c.args.edits.here.now) _ (taken.left, taken_leads c.args.edits c.args.patch.now c.args.woven.now taken) c.in_err-left.ensures)

pub keeps_places-requires-clause-led : goal.keeps_places-requires-clause-led
keeps_places-requires-clause-led c =
    let edits = c.args.edits in
    let leads = subst (Splices c.args.patch.now edits.here.now) (sym c.as_slice.ensures) c.in_ok-left.ensures.0 in
    taken_is_led edits c.args.patch.now c.args.woven.now c.requires.taken c.as_slice.result.now
    (taken_text edits c.args.patch.now c.args.woven.now c.requires.taken c.as_slice.result.now leads)

pub returns-clause-kept : goal.returns-clause-kept
returns-clause-kept c =
    let edits = c.args.edits in
    let text = c.as_slice.result.now in
    let leads = subst (Splices c.args.patch.now edits.here.now) (sym c.as_slice.ensures) c.in_ok-left.ensures.0 in
    IfOk-weaker c.keeps_places.result _ _
    (λ kept all yes some taken. (all taken.parts taken.others (ahead_in taken.strands) (back_in taken.strands)
    (taken_led edits c.args.patch.now c.args.woven.now taken text (taken_text edits c.args.patch.now c.args.woven.now taken text leads))).0 yes)
    c.keeps_places.ensures.keeps

pub returns-clause-lost : goal.returns-clause-lost
returns-clause-lost c =
    let edits = c.args.edits in
    let text = c.as_slice.result.now in
    let leads = subst (Splices c.args.patch.now edits.here.now) (sym c.as_slice.ensures) c.in_ok-left.ensures.0 in
    let some = some_hunks c.args.patch.now c.hunks.result.now c.hunks.ensures.hunks
    (λ none. false≢true (sym c.if-is_empty.false ∙ c.is_empty.ensures ∙ ap (λ hs. length hs == 0) none)) in
    IfOk-weaker c.keeps_places.result _ _
    (λ kept all no taken. (
      some,
      λ keeps. false≢true (sym no ∙ (all taken.parts taken.others (ahead_in taken.strands) (back_in taken.strands)
          (taken_led edits c.args.patch.now c.args.woven.now taken text (taken_text edits c.args.patch.now c.args.woven.now taken text leads))).1 keeps),
    ))
    c.keeps_places.ensures.keeps
