use Rattle.std.proofs.Common.{map}
use Rattle.rec_text.specs.Elements.{text_of}
use Rattle.rec_edit.specs.Task.{task_of}
use Rattle.rec_edit.proofs.lemmas.outcomes.BatchLemmas.{kept_outcome, sound_outcome, unsound_outcome}
use Rattle.rec_edit.proofs.batches.outcome.Goals as goal
use Rattle.rec_edit.proofs.batches.outcome.Goals.{then-not-is_sound+in_default, else-not-is_sound}

pub returns-in-Err-clause-refused : goal.returns-in-Err-clause-refused
returns-in-Err-clause-refused c =
    unsound_outcome c.args.force (map task_of c.args.edits.now) (text_of c.args.file.pieces) c.in_ok-made.made c.in_ok-made.ensures.made
    (c.keep_rules-is_sound.ensures.unforced c.if-not-is_sound.true) c.as_slice-text.result.now c.as_slice-text.ensures c.in-Err.fault c.in-Err.ensures

pub returns-clause-made : goal.returns-clause-made
returns-clause-made c =
    let tasks = map task_of c.args.edits.now in
    let text = text_of c.args.file.pieces in
    let made = c.in_ok-made.made in
    let are = c.in_ok-made.ensures.made in
    elim c.if-not-is_sound.branch [
      | then-not-is_sound+in_default w ↦
          sound_outcome c.args.force tasks text made are (c.keep_rules-is_sound.ensures.unforced w.if-not-is_sound.true) c.as_slice-text.result.now c.as_slice-text.ensures w.in_default.ensures
      | else-not-is_sound w ↦ kept_outcome c.args.force tasks text made are (c.keep_rules-is_sound.ensures.kept w.if-not-is_sound.false made are)
    ]
