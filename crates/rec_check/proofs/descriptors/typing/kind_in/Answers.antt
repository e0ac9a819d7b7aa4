use Rattle.std.proofs.Common.{sym, subst}
use Rattle.rec_check.specs.proving.Kinds.{IsKindIn}
use Rattle.rec_text.proofs.lemmas.ErrorLemmas.{kept_error}
use Rattle.rec_check.proofs.lemmas.field_types.KindLemmas.{kind_refused}
use Rattle.rec_check.proofs.descriptors.typing.kind_in.Goals as goal

pub returns-in_err-value_type : goal.returns-in_err-value_type
returns-in_err-value_type c =
    let text = c.args.text.now in
    let told = kind_refused text c.in-Some.kind.now c.in-Some.following.now c.in-Some.ensures.0 c.in-Some.ensures.1 c.in_err-value_type.field-0.0 c.in_err-value_type.ensures in
    subst (IsKindIn text) (sym (kept_error c.from_residual.ensures.1)) told
