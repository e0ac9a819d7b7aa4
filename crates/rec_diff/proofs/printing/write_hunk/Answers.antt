use Rattle.std.proofs.Common.{◌≡◌, ◌∙◌, get_or, ap, arith}
use Rattle.std.specs.List.{flat_map}
use Rattle.rec_select.proofs.lemmas.printing.PutsLemmas.{HasStopped-append, HasStopped-as, HasStopped-failed, HasStopped-prefix, HasTaken-append, HasTaken-as}
use Rattle.rec_select.proofs.lemmas.printing.PutsLemmas.{Prints-stopped}
use Rattle.rec_diff.specs.declared.turn.Place.{Place}
use Rattle.rec_diff.specs.Diff.{part_text}
use Rattle.rec_diff.specs.proving.Passages.{parts_in}
use Rattle.rec_diff.proofs.lemmas.PassageLemmas.{no_turn, first_start}
use Rattle.rec_diff.proofs.lemmas.ShownLemmas.{text_is}
use Rattle.rec_diff.proofs.printing.write_hunk.Goals as goal

pub returns-in_err-put_all-clause-printed : goal.returns-in_err-put_all-clause-printed
returns-in_err-put_all-clause-printed g c =
    let before = c.args.texts.before.now in
    let after = c.args.texts.after.now in
    let x = c.args.passage.now in
    let text =
    text_is before after c.args.passed.place.old c.args.passed.place.new x c.on_to-start.result c.on_to-first.result c.requires.passage
    c.on_to-start.ensures.known c.on_to-first.ensures.known c.on_to-start.ensures.place c.on_to-first.ensures.place in
    let put = c.in_err-put_all.ensures in
    Prints-stopped c.from_residual-in_err-put_all.result c.from_residual-in_err-put_all.ensures.1
    (HasStopped-as text (HasStopped-prefix (flat_map part_text (parts_in before after x))
    (HasStopped-as (c.deref.ensures.value ∙ c.in_ok-head.ensures) (HasStopped-failed put.prefix put.counted put.failed put.refusals))))

pub returns-in_err-write_parts-clause-printed : goal.returns-in_err-write_parts-clause-printed
returns-in_err-write_parts-clause-printed g c =
    let before = c.args.texts.before.now in
    let after = c.args.texts.after.now in
    let x = c.args.passage.now in
    let text =
    text_is before after c.args.passed.place.old c.args.passed.place.new x c.on_to-start.result c.on_to-first.result c.requires.passage
    c.on_to-start.ensures.known c.on_to-first.ensures.known c.on_to-start.ensures.place c.on_to-first.ensures.place in
    let put = c.in_ok-put_all.ensures in
    Prints-stopped c.from_residual-in_err-write_parts.result c.from_residual-in_err-write_parts.ensures.1
    (HasStopped-as text
    (HasStopped-append (HasTaken-as (c.deref.ensures.value ∙ c.in_ok-head.ensures) (record { whole = put.all; sound = put.kept })) c.in_err-write_parts.ensures.printed))

pub returns-clause-printed : goal.returns-clause-printed
returns-clause-printed g c =
    let before = c.args.texts.before.now in
    let after = c.args.texts.after.now in
    let x = c.args.passage.now in
    let text =
    text_is before after c.args.passed.place.old c.args.passed.place.new x c.on_to-start.result c.on_to-first.result c.requires.passage
    c.on_to-start.ensures.known c.on_to-first.ensures.known c.on_to-start.ensures.place c.on_to-first.ensures.place in
    let put = c.in_ok-put_all.ensures in
    HasTaken-as text
    (HasTaken-append (HasTaken-as (c.deref.ensures.value ∙ c.in_ok-head.ensures) (record { whole = put.all; sound = put.kept })) c.in_ok-write_parts.ensures.printed)

pub returns-clause-place : goal.returns-clause-place
returns-clause-place g c =
    let x = c.args.passage.now in
    let within = first_start c.args.texts.before.now c.args.texts.after.now c.args.passed.place.old c.args.passed.place.new x no_turn c.requires.passage in
    let old : c.on_to-first.result.place.old ≡ (get_or x.turns.now 0 no_turn).start.old = ap (λ (p : Place). p.old) c.on_to-first.ensures.place in
    let new : c.on_to-first.result.place.new ≡ (get_or x.turns.now 0 no_turn).start.new = ap (λ (p : Place). p.new) c.on_to-first.ensures.place in
    (omega (arith, old, within.0), omega (arith, new, within.1))
