use Rattle.rec_edit.proofs.lemmas.outcomes.UnruledLemmas.{unruled_edit_is_sound}
use Rattle.rec_edit.proofs.laws.unruled_edits_are_sound.Goals as goal

pub returns : goal.returns
returns c = unruled_edit_is_sound
