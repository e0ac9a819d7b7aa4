use Rattle.std.proofs.Common.{◌+◌, ◌-◌, drop, get_or, length, map, arith}
use Rattle.rec_diff.specs.Composing.{deeds_from, deeds_of}
use Rattle.rec_diff.specs.proving.Runs.{run_deeds}
use Rattle.rec_diff.specs.proving.Weaving.{back_hunk}
use Rattle.rec_diff.proofs.lemmas.composing.RunLemmas.{hunk_deeds, one_goes_over}
use Rattle.rec_diff.proofs.lemmas.reverting.LeadLemmas.{back_deeds, back_ends, backs_lead, no_back}
use Rattle.rec_diff.proofs.reverting.answer.runs_back.Goals as goal

pub overflow_add-place : goal.overflow_add-place
overflow_add-place c =
    let leads = c.loop-back.invariant.leads in
    omega (arith, leads.1, back_ends leads.0 c.loop-back.place c.args.backs.now c.loop-back.back-index c.loop-back-test.true leads.2)

pub loop-back-preserved : goal.loop-back-preserved
loop-back-preserved c =
    let leads = c.loop-back.invariant.leads in
    let backs = c.args.backs.now in
    let i = c.loop-back.back-index in
    let place = c.loop-back.place in
    let back = get_or backs i no_back in
    record {
      leads = (leads.0, leads.1, backs_lead leads.0 place backs i c.loop-back-test.true leads.2);
      deeds = one_goes_over (run_deeds c.loop-back.runs.items) (hunk_deeds (back.at - place) (back_hunk back)) (run_deeds c.push_change.new.runs.items)
          (deeds_from place (map back_hunk (drop i backs))) (deeds_from (back.at + length back.old.now) (map back_hunk (drop (i + 1) backs))) (deeds_of (map back_hunk backs))
          c.loop-back.invariant.deeds (back_deeds leads.0 place backs i c.loop-back-test.true leads.2) c.in_ok-push_change.ensures;
    }
