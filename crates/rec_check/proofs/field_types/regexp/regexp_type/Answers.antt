use Rattle.std.proofs.Common.{refl}
use Rattle.rec_check.specs.declared.field_types.field_type.FieldType.TheVariants.{Matching}
use Rattle.rec_text.proofs.lemmas.ErrorLemmas.{kept_error}
use Rattle.rec_check.proofs.lemmas.field_types.RegexpLemmas.{regexp_of-none, regexp_type-refused, regexp_type-built}
use Rattle.rec_check.proofs.field_types.regexp.regexp_type.Goals as goal

pub returns-in_default-from_utf8 : goal.returns-in_default-from_utf8
returns-in_default-from_utf8 c =
    rw c.bad-in_default-from_utf8.ensures (regexp_of-none c.args.text.now _ _ c.strip.ensures c.in-Some.ensures c.in_default-from_utf8.ensures.cases.0)

pub returns-in_err-pattern : goal.returns-in_err-pattern
returns-in_err-pattern c =
    let text = c.in-Ok.ensures.cases in
    rw (kept_error c.from_residual.ensures.1) (regexp_type-refused c.args.text.now _ _ _ c.strip.ensures c.in-Some.ensures text.0 text.1 _ c.in_err-pattern.ensures.pattern)

pub returns : goal.returns
returns c =
    let text = c.in-Ok.ensures.cases in
    regexp_type-built c.args.text.now _ _ _ c.strip.ensures c.in-Some.ensures text.0 text.1 c.in_ok-pattern.pattern.value (Matching c.in_ok-pattern.pattern) refl c.in_ok-pattern.ensures.pattern
