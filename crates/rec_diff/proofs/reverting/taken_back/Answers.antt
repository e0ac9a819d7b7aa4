use Rattle.std.proofs.Common.{◌∙◌, Some, ap, arith, length, map, subst, sym}
use Rattle.rec_diff.specs.Reverts.{as_patch}
use Rattle.rec_diff.specs.proving.Weaving.{AreInStep, at_start, back_hunk}
use Rattle.rec_diff.proofs.lemmas.reverting.FoundLemmas.{backs_lead, in_step, nothing_stands}
use Rattle.rec_diff.proofs.lemmas.reverting.TakingLemmas.{backs_turnable, is_taken, later_can_move, stands_alike}
use Rattle.rec_diff.proofs.reverting.taken_back.Goals as goal

pub standing_of-requires-clause-others : goal.standing_of-requires-clause-others
standing_of-requires-clause-others c =
    let edits = c.args.edits in
    subst (AreInStep (record { old = length edits.after.now; new = length edits.here.now }) at_start) (sym c.deref-2.ensures.value)
    (in_step c.in_ok-change.ensures c.in_ok-later.ensures)

pub returns-in_default : goal.returns-in_default
returns-in_default c =
    let texts = c.own_texts.ensures in
    nothing_stands c.in_ok-change.ensures c.in_ok-later.ensures
    (stands_alike _ _ _ _ _ _ _ _ (ap (λ r. r.now) texts.before) (ap (λ r. r.now) texts.after) c.deref.ensures.value c.deref-2.ensures.value ∙ (rw c.in_default.is at c.in_ok-backs.ensures))

pub patch_of-requires : goal.patch_of-requires
patch_of-requires c =
    let texts = c.own_texts.ensures in
    let found = stands_alike _ _ _ _ _ _ _ _ (ap (λ r. r.now) texts.before) (ap (λ r. r.now) texts.after) c.deref.ensures.value c.deref-2.ensures.value ∙ (rw c.in-Some.is at c.in_ok-backs.ensures)
    ∙ ap (λ bs. Some (map back_hunk bs)) (sym c.deref-3.ensures.value) in
    let lead = backs_lead c.in_ok-change.ensures c.in_ok-later.ensures c.deref-3.result.now found in
    record { leads = (c.args.edits.here.now, lead.0, omega arith, lead.1) }

pub weave-requires-clause-back : goal.weave-requires-clause-back
weave-requires-clause-back c =
    let texts = c.own_texts.ensures in
    let found = stands_alike _ _ _ _ _ _ _ _ (ap (λ r. r.now) texts.before) (ap (λ r. r.now) texts.after) c.deref.ensures.value c.deref-2.ensures.value ∙ (rw c.in-Some.is at c.in_ok-backs.ensures)
    ∙ ap (λ bs. Some (map back_hunk bs)) (sym c.deref-4.ensures.value) in
    backs_turnable c.args.edits c.in_ok-change.change.items c.in_ok-later.later.items c.in_ok-change.ensures c.in_ok-later.ensures c.deref-4.result.now found (omega arith) (omega arith)

pub weave-requires-clause-ahead : goal.weave-requires-clause-ahead
weave-requires-clause-ahead c =
    let texts = c.own_texts.ensures in
    let found = stands_alike _ _ _ _ _ _ _ _ (ap (λ r. r.now) texts.before) (ap (λ r. r.now) texts.after) c.deref.ensures.value c.deref-2.ensures.value ∙ (rw c.in-Some.is at c.in_ok-backs.ensures)
    ∙ ap (λ bs. Some (map back_hunk bs)) (sym c.deref-4.ensures.value) in
    later_can_move c.args.edits c.in_ok-change.change.items c.in_ok-later.later.items c.in_ok-change.ensures c.in_ok-later.ensures c.deref-4.result.now found (omega arith) (omega arith)

pub returns : goal.returns
returns c =
    let texts = c.own_texts.ensures in
    let woven = c.in_ok-woven.ensures in
    let found = stands_alike _ _ _ _ _ _ _ _ (ap (λ r. r.now) texts.before) (ap (λ r. r.now) texts.after) c.deref.ensures.value c.deref-2.ensures.value ∙ (rw c.in-Some.is at c.in_ok-backs.ensures)
    ∙ ap (λ bs. Some (map back_hunk bs)) (sym c.deref-4.ensures.value) in
    is_taken c.args.edits c.in_ok-change.change.items c.in_ok-later.later.items c.in_ok-change.ensures c.in_ok-later.ensures c.deref-4.result.now found (omega arith) (omega arith)
    c.in_ok-hunks.hunks.items c.in_ok-woven.woven
    (c.in_ok-hunks.ensures ∙ ap (λ bs. as_patch (map back_hunk bs)) (c.deref-3.ensures.value ∙ sym c.deref-4.ensures.value)) woven.change woven.later woven.back woven.ahead
