use Rattle.std.proofs.Common.{◌≡◌, ◌≤◌, ◌∙◌, ap, length, map, arith}
use Rattle.rec_diff.specs.Composing.{deeds_of}
use Rattle.rec_diff.specs.proving.Runs.{old_count, run_deeds}
use Rattle.rec_diff.specs.proving.Weaving.{back_hunk}
use Rattle.rec_diff.proofs.lemmas.composing.LeadingLemmas.{old_count-le, splices_does}
use Rattle.rec_diff.proofs.reverting.answer.patch_of.Goals as goal

pub hunks_of-requires : goal.hunks_of-requires
hunks_of-requires c =
    let leads = c.requires.leads in
    let hunks = map back_hunk c.args.backs.now in
    let within : old_count (deeds_of hunks) ≤ length leads.0 = old_count-le (deeds_of hunks) leads.0 leads.1 (splices_does 0 hunks leads.0 leads.1 leads.3) in
    let same : old_count (run_deeds c.deref.result.now) ≡ old_count (deeds_of hunks) =
    ap (λ r. old_count (run_deeds r)) c.deref.ensures.value ∙ ap old_count c.in_ok-runs.ensures in
    omega (arith, leads.2, within, same)
