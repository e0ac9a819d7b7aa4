use Rattle.std.proofs.Common.{◌≡◌, ◌<◌, ◌^◌, ℕ, List, ◌++◌, length, drop, map}
use Rattle.rec_diff.specs.Composing.{deeds_from, deeds_of}
use Rattle.rec_diff.specs.proving.Runs.{run_deeds}
use Rattle.rec_diff.specs.proving.Weaving.{back_hunk}
use Rattle.rec_diff.proofs.lemmas.reverting.LeadLemmas.{LeadOn}
use Rattle.rec_diff.proofs.reverting.answer.runs_back.Given as goal

-- what is done so far, and what is left
abbrev pub invariant-loop-back : goal.invariant-loop-back
invariant-loop-back l = record {
  leads : (here : List ℕ) × (length here < 2 ^ 64) × LeadOn here l.place (map back_hunk (drop l.back-index l.backs));
  deeds : run_deeds l.runs.items ++ deeds_from l.place (map back_hunk (drop l.back-index l.backs)) ≡ deeds_of (map back_hunk l.backs);
}
