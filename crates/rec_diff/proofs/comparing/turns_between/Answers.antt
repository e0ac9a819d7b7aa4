use Rattle.std.proofs.Common.{◌≡◌, ◌∙◌, [], map, ap₂}
use Rattle.std.proofs.lemmas.List.{take_rest}
use Rattle.rec_diff.specs.Comparing.{parts_between}
use Rattle.rec_diff.specs.WholeLines.{same_end, whole_lines}
use Rattle.rec_diff.specs.proving.Turns.{AreAll, site_of, sites}
use Rattle.rec_diff.proofs.lemmas.RestLemmas.{IfOk-map}
use Rattle.rec_diff.proofs.lemmas.comparing.BetweenLemmas.{IsInnerOf, inner_of, first_same, last_fits, all_found}
use Rattle.rec_diff.proofs.lemmas.comparing.CutsLemmas.{marks_cut}
use Rattle.rec_diff.proofs.comparing.turns_between.Goals as goal
use Rattle.rec_diff.proofs.comparing.turns_between.Goals.{After-same_end-last}

of : (c : After-same_end-last) → IsInnerOf c.args.texts.before.now c.args.texts.after.now c.same_start-first.result c.same_end-last.result
of c =
    inner_of _ _ _ _ c.same_start-first.ensures.count
    (c.same_end-last.ensures.count ∙ ap₂ same_end (take_rest _ c.same_start-first.result) (take_rest _ c.same_start-first.result))

pub stay-requires-clause-same : goal.stay-requires-clause-same
stay-requires-clause-same c =
    let here = c.new-lining.ensures.here in
    first_same _ _ _ _ (of (goal.at.stay-requires-clause-same c).After-same_end-last) _ _ here.0 here.1

pub pass_marks-requires-clause-inner : goal.pass_marks-requires-clause-inner
pass_marks-requires-clause-inner c =
    rw (c.inner_texts-inner.ensures.old, c.inner_texts-inner.ensures.new) (of (goal.at.pass_marks-requires-clause-inner c).After-same_end-last).inner

pub pass_marks-requires-clause-cuts : goal.pass_marks-requires-clause-cuts
pass_marks-requires-clause-cuts c =
    rw (c.deref.ensures.value, c.in_ok-marks.ensures) (marks_cut c.inner_texts-inner.result.before.now c.inner_texts-inner.result.after.now)

pub stay-requires-2-clause-same : goal.stay-requires-2-clause-same
stay-requires-2-clause-same c =
    let passed = rw (c.inner_texts-inner.ensures.old, c.inner_texts-inner.ensures.new) at c.in_ok-pass_marks.ensures in
    (last_fits _ _ _ _ (of (goal.at.stay-requires-2-clause-same c).After-same_end-last) passed.from c.pass_marks.new.lining c.turn_to.new.self passed.read c.in_ok-turn_to.ensures).same

pub returns-clause-places : goal.returns-clause-places
returns-clause-places c =
    let before = c.args.texts.before.now in
    let after = c.args.texts.after.now in
    let inner = c.inner_texts-inner.ensures in
    let is = of (goal.at.returns-clause-places c).After-same_end-last in
    let passed = rw (inner.old, inner.new) at c.in_ok-pass_marks.ensures in
    let marks = rw (inner.old, inner.new) at c.in_ok-marks.ensures in
    let lining = c.new-lining.ensures in
    IfOk-map c.finish.result (λ ts. AreAll before after c.stay-2.new.self ts.items)
    (λ ts. map (site_of before after) ts.items ≡ sites [] [] (whole_lines (parts_between before after)))
    (λ ts all.
    all_found before after _ _ is c.deref.result.now c.stay.new.self c.pass_marks.new.lining c.turn_to.new.self c.stay-2.new.self c.new-lining.result ts.items
    (record { turns = lining.turns; start = lining.start; line = lining.line; here = lining.here }) (c.deref.ensures.value ∙ marks)
    c.same_start-first.ensures.count
    (c.same_end-last.ensures.count ∙ ap₂ same_end (take_rest _ c.same_start-first.result) (take_rest _ c.same_start-first.result))
    c.in_ok-stay.ensures passed c.in_ok-turn_to.ensures c.in_ok-stay-2.ensures all)
    c.finish.ensures
