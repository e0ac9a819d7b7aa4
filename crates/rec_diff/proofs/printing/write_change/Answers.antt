use Rattle.rec_select.proofs.lemmas.printing.PutsLemmas.{PrintsAndCounts-prints}
use Rattle.rec_diff.specs.Diff.{IsChangeText}
use Rattle.rec_diff.proofs.lemmas.CutPlaceLemmas.{change_text}
use Rattle.rec_diff.proofs.printing.write_change.Goals as goal

pub write_turns-requires : goal.write_turns-requires
write_turns-requires g c =
    (change_text c.args.before.now c.args.after.now c.args.style.now c.args.patch.now _ _ c.deref.ensures.value c.requires c.in_ok-turns.ensures.order c.in_ok-turns.ensures.places).0

pub returns-clause-written : goal.returns-clause-written
returns-clause-written g c =
    PrintsAndCounts-prints _ _ _ _ _ (IsChangeText c.args.style.now c.args.patch.now c.args.before.now c.args.after.now)
    (change_text c.args.before.now c.args.after.now c.args.style.now c.args.patch.now _ _ c.deref.ensures.value c.requires c.in_ok-turns.ensures.order c.in_ok-turns.ensures.places).1
    c.write_turns.result c.write_turns.ensures
