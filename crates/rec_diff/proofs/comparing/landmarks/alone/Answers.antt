use Rattle.std.proofs.Common.{◌∙◌, sym}
use Rattle.rec_diff.proofs.lemmas.comparing.LandmarkLemmas.{alone_first, alone_twice, alone_none}
use Rattle.rec_diff.proofs.comparing.landmarks.alone.Goals as goal
use Rattle.rec_diff.proofs.comparing.landmarks.alone.Goals.{else-eq-via-then-eq+else-not-begins, else-eq-via-else-eq}

pub returns-then-not-begins : goal.returns-then-not-begins
returns-then-not-begins c =
    let whole = c.in_ok-first.ensures.cases.0 in
    let sorted = rw whole at c.requires.sorted in
    let first = rw whole at c.requires.first in
    rw whole (sym (alone_first c.args.text.now c.in_ok-first.first.now c.in_ok-first.rest.now sorted first (sym c.eq.ensures ∙ c.if-eq.true) (sym c.begins.ensures ∙ c.if-not-begins.true)))

pub returns-else-eq : goal.returns-else-eq
returns-else-eq c =
    let whole = c.in_ok-first.ensures.cases.0 in
    let sorted = rw whole at c.requires.sorted in
    let first = rw whole at c.requires.first in
    let text = c.args.text.now in
    let l = c.in_ok-first.first.now in
    let rest = c.in_ok-first.rest.now in
    elim c.else-eq.branch [
      | else-eq-via-then-eq+else-not-begins w ↦ rw whole (sym (alone_twice text l rest (sym c.eq.ensures ∙ w.if-eq.true) (sym w.begins.ensures ∙ w.if-not-begins.false)))
      | else-eq-via-else-eq w ↦ rw whole (sym (alone_none text l rest sorted first (sym c.eq.ensures ∙ w.if-eq.false)))
    ]
