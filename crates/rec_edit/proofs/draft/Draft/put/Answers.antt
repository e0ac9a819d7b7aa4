use Rattle.std.proofs.Common.{◌≡◌, ◌≢◌, List, [], ◌∷◌, length, ap, refl, ℕ, sym}
use Rattle.std.specs.Result.{OnOk}
use Rattle.std.specs.Prelude.{Result}
use Rattle.std.proofs.lemmas.Bool.{eqb-false}
use Rattle.rec_text.specs.Elements.{Piece, text_of}
use Rattle.rec_edit.specs.declared.draft.Draft.{Draft}
use Rattle.rec_edit.specs.Script.{Part}
use Rattle.rec_edit.specs.Blocks.{put}
use Rattle.rec_edit.specs.proving.Drafts.{LeadsOn}
use Rattle.rec_edit.proofs.draft.Draft.put.Goals as goal

put_led : {T E : Type 0} (r : Result T E) (draft new : Draft) (pieces : List Piece) (bytes : List ℕ) → length bytes ≢ 0 → bytes ≡ text_of pieces
    → ((part : Part) → ◌≡◌ {A = List ℕ} [] (text_of part.old) → bytes ≡ text_of part.new → OnOk r (LeadsOn draft (part ∷ []) new)) → OnOk r (LeadsOn draft (put pieces) new)
put_led r draft new [] bytes some is change = absurd (some (ap length is))
put_led r draft new (piece ∷ pieces) bytes some is change = change (record { old = []; new = piece ∷ pieces }) refl is

pub returns-clause-carried_out : goal.returns-clause-carried_out
returns-clause-carried_out c = λ pieces lines is. put_led _ _ _ pieces c.args.new.now (eqb-false _ 0 (sym c.if-is_empty.ensures)) is c.change.ensures.carried_out
