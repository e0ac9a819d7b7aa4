use Rattle.std.proofs.Common.{◌∙◌, ℕ, List, length, None, Some, subst}
use Rattle.rec_check.specs.Stored.{described}
use Rattle.rec_edit.specs.Blocks.{is_selected}
use Rattle.rec_edit.specs.Outcome.{AreChosen, IsMade}
use Rattle.rec_edit.specs.Rules.{fields_of, replaced}
use Rattle.rec_edit.specs.Task.{Pair, fresh_by, wanted_by}
use Rattle.rec_edit.specs.proving.Laying.{IsMadeOf}
use Rattle.rec_text.specs.Steps.{Then}
use Rattle.rec_edit.specs.Wording.{IsNewRecord}
use Rattle.rec_text.proofs.lemmas.ErrorLemmas.{kept_error}
use Rattle.rec_edit.proofs.lemmas.blocks.ReplacementLemmas.{TakesAll-replaced}
use Rattle.rec_edit.proofs.lemmas.outcomes.EditLemmas.{carried_on, made-carried_out, refused_first, refused_next}
use Rattle.rec_edit.proofs.outcome.replace.Goals as goal

pub returns-in_err-pairs : goal.returns-in_err-pairs
returns-in_err-pairs c = λ force.
    let pieces = c.args.file.now.pieces in
    let sets = (described c.args.file.now.schema).sets in
    rw (kept_error c.from_residual.ensures.1)
    (refused_first (IsNewRecord None (fresh_by c.args.fresh.now)) (λ others. Then (AreChosen pieces sets (wanted_by c.args.selection.now)) (IsMade pieces (replaced (fields_of others))))
    c.in_err-pairs.field-0.0 c.in_err-pairs.ensures.refused)

pub returns-in_err-selected : goal.returns-in_err-selected
returns-in_err-selected c = λ force.
    let pieces = c.args.file.now.pieces in
    let sets = (described c.args.file.now.schema).sets in
    rw (kept_error c.from_residual-in_err-selected.ensures.1)
    (refused_next {B = List ℕ} (IsNewRecord None (fresh_by c.args.fresh.now)) (λ others. AreChosen pieces sets (wanted_by c.args.selection.now)) (λ others. IsMade pieces (replaced (fields_of others)))
    c.in_ok-pairs.pairs.items c.in_err-selected.field-0.0 c.in_ok-pairs.ensures.found c.in_err-selected.ensures.refused)

pub carried_out-requires : goal.carried_out-requires
carried_out-requires c = TakesAll-replaced (λ k block. fields_of c.in_ok-change.change.pairs.now)

pub returns : goal.returns
returns c = λ force.
    let pieces = c.args.file.now.pieces in
    let sets = (described c.args.file.now.schema).sets in
    let wanted = wanted_by c.args.selection.now in
    let pairs = c.in_ok-pairs.pairs.items in
    let selected = c.in_ok-selected.selected.items in
    let shown = c.deref-2.result.now in
    let made =
    subst (λ (p : List Pair). IsMadeOf pieces (Some (length shown)) (is_selected shown) (λ k. replaced (fields_of p)) c.in_ok-carried_out.field-0) (c.in_ok-change.ensures ∙ c.deref.ensures.value)
    c.in_ok-carried_out.ensures in
    carried_on (IsNewRecord None (fresh_by c.args.fresh.now)) (λ others. Then (AreChosen pieces sets wanted) (IsMade pieces (replaced (fields_of others)))) pairs _ c.in_ok-pairs.ensures.found
    (carried_on (AreChosen pieces sets wanted) (IsMade pieces (replaced (fields_of pairs))) selected _ c.in_ok-selected.ensures.selected
    (made-carried_out pieces (replaced (fields_of pairs)) selected shown c.in_ok-carried_out.field-0 c.deref-2.ensures.value made))
