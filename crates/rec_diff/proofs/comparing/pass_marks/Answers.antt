use Rattle.std.proofs.Common.{◌≡◌, ◌∙◌, ◌+◌, ◌∷◌, length, drop, get_or, ap}
use Rattle.std.proofs.lemmas.List.{drop_more, take_rest}
use Rattle.rec_diff.specs.Lines.{first_lines}
use Rattle.rec_diff.specs.declared.turn.Place.{Place}
use Rattle.rec_diff.specs.proving.Cutting.{ArePassed}
use Rattle.rec_diff.specs.proving.Passages.{origin}
use Rattle.rec_diff.proofs.lemmas.comparing.CuttingLemmas.{passed_none, passed_more, line_fits}
use Rattle.rec_diff.proofs.comparing.pass_marks.Goals as goal
use Rattle.rec_diff.proofs.comparing.pass_marks.Goals.{After-first_lines-line}

abbrev mark : After-first_lines-line → Place
mark c = get_or c.args.marks.now c.loop-mark.mark-index origin

next : (c : After-first_lines-line)
    → ArePassed c.args.texts.before.now c.args.texts.after.now c.args.inner.before.now c.args.inner.after.now c.args.first c.args.marks.now c.args.lining.now
    (mark c ∷ drop (c.loop-mark.mark-index + 1) c.args.marks.now) c.loop-mark.lining
next c = rw (drop_more c.args.marks.now c.loop-mark.mark-index origin c.loop-mark-test.true) at c.loop-mark.invariant

line_is : (c : After-first_lines-line) → c.first_lines-line.result ≡ length (first_lines 1 (drop (mark c).old c.args.inner.before.now))
line_is c = c.first_lines-line.ensures ∙ ap (λ t. length (first_lines 1 t)) (take_rest c.args.inner.before.now (mark c).old)

pub loop-mark-init : goal.loop-mark-init
loop-mark-init c =
    let r = c.requires in
    passed_none _ _ _ _ _ r.inner c.args.marks.now c.args.lining.now r.lining r.old r.new r.cuts

pub stay-requires-clause-same : goal.stay-requires-clause-same
stay-requires-clause-same c =
    let before = (goal.at.stay-requires-clause-same c).After-first_lines-line in
    let are = next before in
    (line_fits _ _ _ _ _ c.requires.inner are.from (mark before) _ c.loop-mark.lining c.turn_to.new.self _ are.read c.in_ok-turn_to.ensures (line_is before)).same

pub loop-mark-preserved : goal.loop-mark-preserved
loop-mark-preserved c =
    let before = (goal.at.loop-mark-preserved c).After-first_lines-line in
    passed_more _ _ _ _ _ c.requires.inner c.args.marks.now c.args.lining.now (mark before) _ c.loop-mark.lining c.turn_to.new.self c.stay.new.self _ (next before)
    c.in_ok-turn_to.ensures (line_is before) c.in_ok-stay.ensures
