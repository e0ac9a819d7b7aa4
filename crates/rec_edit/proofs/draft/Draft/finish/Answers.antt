use Rattle.std.proofs.Common.{◌∙◌, List, sym, subst}
use Rattle.rec_journal.specs.declared.patch.Hunk.{Hunk}
use Rattle.rec_journal.specs.Patch.{IsPatch}
use Rattle.rec_edit.proofs.lemmas.scripts.ScriptLemmas.{all_done, text_done, patch_made, patch_is, IsPatch-hunks_of}
use Rattle.rec_edit.proofs.draft.Draft.finish.Goals as goal

pub unwrap-patch-requires : goal.unwrap-patch-requires
unwrap-patch-requires c =
    let done = c.requires.done in
    let P : List Hunk → Type 0 = IsPatch in
    patch_made c.new.result _ _ c.new.ensures (subst P (sym (all_done c.args.self c.in_ok-hunks.hunks.items done.0 c.in_ok-hunks.ensures done.1)) (IsPatch-hunks_of done.0))

pub returns : goal.returns
returns c = λ whole is. (
  patch_is c.new.result _ _ _ c.new.ensures c.unwrap-patch.ensures ∙ all_done c.args.self c.in_ok-hunks.hunks.items whole c.in_ok-hunks.ensures is,
  c.from_vec.ensures ∙ text_done c.args.self whole is,
)
