use Rattle.std.proofs.Common.{◌+◌, ◌-◌, drop, length}
use Rattle.rec_diff.specs.Composing.{deeds_from, deeds_of}
use Rattle.rec_diff.specs.proving.Runs.{run_deeds}
use Rattle.rec_diff.proofs.lemmas.composing.RunLemmas.{one_goes_over, hunk_deeds, deeds_from-drop, apart-drop}
use Rattle.rec_diff.proofs.composing.run.runs_of.Goals as goal

pub loop-hunk-preserved : goal.loop-hunk-preserved
loop-hunk-preserved c =
    let hunk = c.hunk-item.result in
    let hunks = c.args.hunks.now in
    let i = c.loop-hunk.hunk-index in
    let place = c.loop-hunk.place in
    let apart = apart-drop hunks i place hunk c.loop-hunk-test.true c.hunk-item.is c.loop-hunk.invariant.apart in
    rw c.as_slice.ensures (record {
      apart = apart.1;
      deeds = one_goes_over (run_deeds c.loop-hunk.runs.items) (hunk_deeds (hunk.at - place) hunk) (run_deeds c.push_hunk.new.runs.items)
          (deeds_from place (drop i hunks)) (deeds_from (hunk.at + length hunk.old) (drop (i + 1) hunks)) (deeds_of hunks)
          c.loop-hunk.invariant.deeds (deeds_from-drop hunks i place hunk c.loop-hunk-test.true c.hunk-item.is) c.in_ok-push_hunk.ensures;
    })
