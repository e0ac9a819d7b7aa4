use Rattle.std.proofs.Common.{◌+◌, [], drop, get_or, refl, subst}
use Rattle.std.proofs.lemmas.List.{drop_more}
use Rattle.rec_select.proofs.lemmas.printing.PutsLemmas.{Prints-stopped}
use Rattle.rec_select.proofs.lemmas.info.InfoLemmas.{one_taken, one_stopped}
use Rattle.rec_diff.specs.declared.passages.Passage.{Passage}
use Rattle.rec_diff.specs.proving.Passages.{ArePassages, passage_text}
use Rattle.rec_diff.proofs.lemmas.PassageLemmas.{ArePassages-weaker}
use Rattle.rec_diff.proofs.printing.write_hunks.Goals as goal

abbrev no_passage : Passage
no_passage = record { start = record { old = 0; new = 0 }; end = record { old = 0; new = 0 }; turns = record { ref_ptr = (0, 0); now = [] } }

pub returns-in_err-passed : goal.returns-in_err-passed
returns-in_err-passed g c =
    let xs = c.args.passages.now in
    let i = c.loop-passage.passage-index in
    Prints-stopped c.from_residual.result c.from_residual.ensures.1
    (one_stopped (passage_text c.args.texts.before.now c.args.texts.after.now) xs i no_passage (get_or xs i no_passage) c.loop-passage.invariant.taken
    c.loop-passage-test.true refl c.in_err-passed.ensures.printed)

pub loop-passage-preserved : goal.loop-passage-preserved
loop-passage-preserved g c =
    let before = c.args.texts.before.now in
    let after = c.args.texts.after.now in
    let xs = c.args.passages.now in
    let i = c.loop-passage.passage-index in
    let x = get_or xs i no_passage in
    let passed = c.in_ok-passed.passed in
    let done = c.in_ok-passed.ensures in
    let inside =
    subst (ArePassages before after c.loop-passage.passed.place.old c.loop-passage.passed.place.new) (drop_more xs i no_passage c.loop-passage-test.true)
    c.loop-passage.invariant.order in
    record {
      taken = one_taken (passage_text before after) xs i no_passage x c.loop-passage.invariant.taken c.loop-passage-test.true refl done.printed;
      known = done.known;
      order =
          ArePassages-weaker before after passed.place.old passed.place.new x.end.old x.end.new done.place.0 done.place.1 (drop (i + 1) xs) inside.1;
    }
