use Rattle.std.proofs.Common.{◌≡◌, ◌∙◌, ◌+◌, ap, sym, drop, get_or, arith}
use Rattle.rec_diff.specs.declared.composing.run.Run.TheVariants.{Kept}
use Rattle.rec_diff.specs.proving.Runs.{deeds_in, run_deeds, old_count, hunks_with}
use Rattle.rec_diff.proofs.lemmas.composing.RunLemmas.{run_deeds-drop_at}
use Rattle.rec_diff.proofs.lemmas.composing.HunkLemmas.{old_count-append}
use Rattle.rec_diff.proofs.composing.turning.hunks_of.Goals as goal

pub add-requires : goal.add-requires
add-requires c =
    let runs = c.args.runs.now in
    let i = c.loop-run.run-index in
    let run = get_or runs i (Kept 0) in
    let left : old_count (run_deeds (drop i runs)) ≡ old_count (deeds_in run) + old_count (run_deeds (drop (i + 1) runs)) =
    ap old_count (run_deeds-drop_at runs i (Kept 0) c.loop-run-test.true) ∙ old_count-append (deeds_in run) (run_deeds (drop (i + 1) runs)) in
    omega (arith, c.requires, c.loop-run.invariant.place)

pub loop-run-preserved : goal.loop-run-preserved
loop-run-preserved c =
    let runs = c.args.runs.now in
    let i = c.loop-run.run-index in
    let run = get_or runs i (Kept 0) in
    let begins = run_deeds-drop_at runs i (Kept 0) c.loop-run-test.true in
    let left : old_count (run_deeds (drop i runs)) ≡ old_count (deeds_in run) + old_count (run_deeds (drop (i + 1) runs)) =
    ap old_count begins ∙ old_count-append (deeds_in run) (run_deeds (drop (i + 1) runs)) in
    record {
      deeds = c.in_ok-add.ensures.deeds (run_deeds (drop (i + 1) runs)) ∙ ap (hunks_with c.loop-run.turning) (sym begins) ∙ c.loop-run.invariant.deeds;
      place = omega (arith, c.in_ok-add.ensures.place, c.loop-run.invariant.place);
    }
