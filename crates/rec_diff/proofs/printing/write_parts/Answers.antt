use Rattle.std.proofs.Common.{◌∙◌, ◌+◌, ◌++◌, drop, get_or, sym, ap, subst}
use Rattle.std.proofs.lemmas.List.{drop_all, drop_more}
use Rattle.rec_select.proofs.lemmas.info.InfoLemmas.{IsTakenTo-more, IsTakenTo-stopped}
use Rattle.rec_select.proofs.lemmas.printing.PutsLemmas.{HasStopped-as, Prints-append, Prints-as, Prints-stopped}
use Rattle.rec_diff.specs.proving.Passages.{end_from, lines_to, turn_lines}
use Rattle.rec_diff.specs.proving.Turns.{AreIn}
use Rattle.rec_diff.proofs.lemmas.PassageLemmas.{no_turn}
use Rattle.rec_diff.proofs.lemmas.ShownLemmas.{lines_are}
use Rattle.rec_diff.proofs.printing.write_parts.Goals as goal

pub returns-in_err-write_turn-clause-printed : goal.returns-in_err-write_turn-clause-printed
returns-in_err-write_turn-clause-printed g c =
    let before = c.args.texts.before.now in
    let after = c.args.texts.after.now in
    let x = c.args.passage.now in
    let i = c.loop-turn.turn-index in
    let turn = get_or x.turns.now i no_turn in
    let place = c.loop-turn.place in
    Prints-stopped c.from_residual.result c.from_residual.ensures.1
    (HasStopped-as (sym (lines_are before after x))
    (IsTakenTo-stopped (turn_lines before after place turn) (lines_to before after turn.end (drop (i + 1) x.turns.now) x.end) c.loop-turn.invariant.taken
    (ap (λ ts. lines_to before after place ts x.end) (drop_more x.turns.now i no_turn c.loop-turn-test.true)) c.in_err-write_turn.ensures.printed))

pub loop-turn-preserved : goal.loop-turn-preserved
loop-turn-preserved g c =
    let before = c.args.texts.before.now in
    let after = c.args.texts.after.now in
    let x = c.args.passage.now in
    let i = c.loop-turn.turn-index in
    let turn = get_or x.turns.now i no_turn in
    let place = c.loop-turn.place in
    let next = drop_more x.turns.now i no_turn c.loop-turn-test.true in
    let inside = subst (AreIn before after place.old place.new) next c.loop-turn.invariant.order in
    record {
      taken =
          IsTakenTo-more (turn_lines before after place turn) (lines_to before after turn.end (drop (i + 1) x.turns.now) x.end) c.loop-turn.invariant.taken
          (ap (λ ts. lines_to before after place ts x.end) next) c.in_ok-write_turn.ensures.printed;
      order = inside.1;
      ends = sym (ap (end_from place) next) ∙ c.loop-turn.invariant.ends;
    }

pub returns-clause-printed : goal.returns-clause-printed
returns-clause-printed g c =
    let before = c.args.texts.before.now in
    let after = c.args.texts.after.now in
    let x = c.args.passage.now in
    let place = c.loop-turn.place in
    let taken = c.loop-turn.invariant.taken in
    let none = ap (λ ts. lines_to before after place ts x.end) (drop_all c.loop-turn.turn-index x.turns.now c.loop-turn-test.false) in
    Prints-as _ _ _ _ (ap (taken.before ++◌) (sym none) ∙ sym taken.parts ∙ sym (lines_are before after x)) c.write_marked.result
    (Prints-append taken.taken _ _ c.write_marked.result c.write_marked.ensures.printed)
