use Rattle.std.proofs.Common.{◌≡◌, ◌≤◌, ℕ, drop, map}
use Rattle.rec_diff.specs.proving.Turns.{AreIn}
use Rattle.rec_diff.specs.proving.Weaving.{AreInStep, at_start, back_hunk, turns_stand}
use Rattle.rec_diff.proofs.lemmas.reverting.StandingLemmas.{all_onto}
use Rattle.rec_diff.proofs.reverting.standing.standing_of.Given as goal

-- those that stand so far, and those that are left
abbrev pub invariant-loop-turn : goal.invariant-loop-turn
invariant-loop-turn l = record {
  stand :
      all_onto (map back_hunk l.backs.items) (turns_stand l.texts.before.now l.texts.after.now (drop l.turn-index l.turns) l.ahead.turns.now l.ahead.place)
      ≡ turns_stand l.texts.before.now l.texts.after.now l.turns l.others at_start;
  in_step : AreInStep l.last l.ahead.place l.ahead.turns.now;
  left : (old : ℕ) × (new : ℕ) × AreIn l.texts.before.now l.texts.after.now old new (drop l.turn-index l.turns) × (l.ahead.place.old ≤ new);
}
