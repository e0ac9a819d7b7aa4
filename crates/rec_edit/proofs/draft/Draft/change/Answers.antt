use Rattle.std.proofs.Common.{◌+◌, ◌++◌, ◌∙◌, ◌≡◌, [], ◌∷◌, true, length, refl, ap, sym, append-nil}
use Rattle.std.specs.Str.{bytes_eq}
use Rattle.rec_text.specs.Elements.{text_of}
use Rattle.rec_edit.proofs.lemmas.scripts.ScriptLemmas.{draft_changed}
use Rattle.rec_edit.proofs.draft.Draft.change.Goals as goal

pub returns-then-eq-clause-carried_out : goal.returns-then-eq-clause-carried_out
returns-then-eq-clause-carried_out c = λ part old_is new_is.
    let same : bytes_eq (text_of part.old) (text_of part.new) ≡ true = ap (λ t. bytes_eq t (text_of part.new)) (sym old_is) ∙ ap (bytes_eq c.args.old.now) (sym new_is) ∙ sym c.if-eq.ensures in
    c.keep.ensures.carried_out (part ∷ []) (same, tt) (old_is ∙ sym (ap text_of (append-nil part.old)))

pub returns-clause-carried_out : goal.returns-clause-carried_out
returns-clause-carried_out c = λ part old_is new_is rest whole is.
    let here = c.in_ok-run.ensures in
    draft_changed c.args.self.now _ c.args.old.now c.args.new.now part rest whole old_is new_is (c.in_ok-extend_from_slice-3.ensures.items ∙ ap (λ t. t ++ c.args.new.now) here.text)
    (ap (λ n. n + length c.args.old.now) here.at) is c.run_here.new.self c.in_ok-run.run' _ here (sym c.if-eq.ensures) refl refl refl
    c.in_ok-extend_from_slice.ensures.items c.in_ok-extend_from_slice-2.ensures.items
