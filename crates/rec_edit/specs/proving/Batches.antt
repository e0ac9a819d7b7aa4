-- How edits are made one after another.
use Rattle.std.specs.Prelude.{ℕ, ◌+◌, List, [], ◌++◌, None}
use Rattle.rec_journal.specs.declared.event.Tool.{Tool}
use Rattle.rec_edit.specs.declared.answer.Edited.{Edited}
use Rattle.rec_edit.specs.declared.outcome.Patched.{Patched}
use Rattle.rec_edit.specs.Batch.{step_with, at_most_greatest, both_chosen}

-- no edit is made, of this text
abbrev pub untouched : List ℕ → Edited
untouched text = record { steps = []; text = text; changed = 0; chosen = None }

-- what is done, with one edit more
abbrev pub after_edit : Edited → Tool → Patched → Edited
after_edit done tool patched = record {
  steps = done.steps ++ step_with tool patched.patch;
  text = patched.text;
  changed = at_most_greatest (done.changed + patched.changed);
  chosen = both_chosen done.chosen patched.chosen;
}
