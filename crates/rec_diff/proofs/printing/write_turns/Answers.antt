use Rattle.std.proofs.Common.{◌≡◌, ◌∙◌, ◌++◌, length, sym, ap}
use Rattle.std.specs.List.{flat_map}
use Rattle.std.proofs.lemmas.Bool.{eqb-true}
use Rattle.rec_select.proofs.lemmas.printing.PutsLemmas.{HasStopped-as, HasStopped-prefix, HasTaken-as, HasTaken-nil, Prints-append, Prints-as, Prints-stopped}
use Rattle.rec_diff.specs.Diff.{named, names}
use Rattle.rec_diff.specs.proving.Passages.{passage_text}
use Rattle.rec_diff.proofs.lemmas.ShownLemmas.{no_hunks, some_hunks}
use Rattle.rec_diff.proofs.printing.write_turns.Goals as goal

pub returns-then-is_empty : goal.returns-then-is_empty
returns-then-is_empty g c =
    let none : length c.args.turns.now ≡ 0 = eqb-true (length c.args.turns.now) 0 (sym c.is_empty.ensures ∙ c.if-is_empty.true) in
    HasTaken-as (sym (no_hunks c.args.texts.before.now c.args.texts.after.now c.args.style.now.name c.args.style.now.context c.args.turns.now none)) (HasTaken-nil c.args.out.now)

pub returns-in_err-write_names : goal.returns-in_err-write_names
returns-in_err-write_names g c =
    let before = c.args.texts.before.now in
    let after = c.args.texts.after.now in
    let name = c.args.style.now.name in
    let passages = c.in_ok-passages.passages.items in
    let is = ap (named name) (sym c.in_ok-passages.ensures.text) ∙ some_hunks before after name passages c.in_ok-passages.ensures.some in
    Prints-stopped c.from_residual-in_err-write_names.result c.from_residual-in_err-write_names.ensures.1
    (HasStopped-as (sym is) (HasStopped-prefix (flat_map (passage_text before after) passages) (HasStopped-as (ap names c.as_slice.ensures) c.in_err-write_names.ensures)))

pub returns : goal.returns
returns g c =
    let before = c.args.texts.before.now in
    let after = c.args.texts.after.now in
    let name = c.args.style.now.name in
    let passages = c.in_ok-passages.passages.items in
    let is = ap (named name) (sym c.in_ok-passages.ensures.text) ∙ some_hunks before after name passages c.in_ok-passages.ensures.some in
    let here = ap (flat_map (passage_text before after)) c.deref.ensures.value in
    Prints-as _ _ _ _ (ap (names name ++◌) here ∙ sym is) c.write_hunks.result
    (Prints-append (HasTaken-as (ap names c.as_slice.ensures) c.in_ok-write_names.ensures) _ _ c.write_hunks.result c.write_hunks.ensures)
