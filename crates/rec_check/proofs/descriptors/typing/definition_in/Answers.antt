use Rattle.std.proofs.Common.{◌≡◌, ◌∙◌, Result, Err, sym}
use Rattle.rec_text.specs.declared.or_memory.OrMemory.{OrMemory}
use Rattle.rec_check.specs.declared.descriptors.descriptor_fault.DescriptorFault.{DescriptorFault}
use Rattle.rec_text.specs.declared.or_memory.OrMemory.TheVariants.{Refused}
use Rattle.rec_check.specs.declared.descriptors.descriptor_fault.DescriptorFault.TheVariants.{Pattern}
use Rattle.rec_text.proofs.lemmas.ErrorLemmas.{kept_error}
use Rattle.rec_check.proofs.lemmas.field_types.KindLemmas.{refused_definition}
use Rattle.rec_check.proofs.descriptors.typing.definition_in.Goals as goal

same_refusal : {T : Type 0} (one other : OrMemory DescriptorFault) → ◌≡◌ {A = Result T (OrMemory DescriptorFault)} (Err one) (Err other) → one ≡ other
same_refusal one other same = cc

pub returns-in_err-kind-clause-pattern : goal.returns-in_err-kind-clause-pattern
returns-in_err-kind-clause-pattern c = λ is.
    refused_definition c.args.value.now c.in-Some.name.now c.in-Some.following.now c.in-Some.ensures.0 c.in-Some.ensures.1 c.in_err-kind.field-0.0
    (sym c.is_plain_name.ensures ∙ c.if-not-is_plain_name.false) c.in_err-kind.ensures (same_refusal c.in_err-kind.field-0.0 (Refused Pattern) (sym (kept_error c.from_residual.ensures.1) ∙ is))
