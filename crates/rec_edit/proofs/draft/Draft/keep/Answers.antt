use Rattle.std.proofs.Common.{refl}
use Rattle.rec_edit.proofs.lemmas.scripts.ScriptLemmas.{draft_kept}
use Rattle.rec_edit.proofs.draft.Draft.keep.Goals as goal

pub returns-clause-carried_out : goal.returns-clause-carried_out
returns-clause-carried_out c = λ parts kept bytes_are rest whole is.
    draft_kept c.args.self.now _ c.args.bytes.now parts rest whole kept bytes_are c.in_ok-extend_from_slice.ensures.items refl refl refl is
