use Rattle.std.proofs.Common.{◌≡◌, ◌∙◌, ℕ, List, ap, map}
use Rattle.std.proofs.lemmas.Result.{IfOk-weaker}
use Rattle.std.specs.Option.{option_map}
use Rattle.regex.specs.Patterns.{Re}
use Rattle.rec_check.specs.Meanings.{meaning_in}
use Rattle.rec_check.specs.proving.Resolved.{meaning_by}
use Rattle.rec_check.specs.Rules.{type_by, typing_for}
use Rattle.rec_check.specs.Stored.{definition_stored, rules_stored, typing_stored}
use Rattle.rec_check.specs.Types.{FieldType}
use Rattle.rec_check.proofs.lemmas.field_types.FittingLemmas.{same_meant}
use Rattle.rec_check.proofs.field_types.types.Types.of.Goals as goal

pub returns-clause-types : goal.returns-clause-types
returns-clause-types c =
    let rules = rules_stored c.args.rules.now in
    let by = meaning_by c.in_ok-resolver.resolver in
    let same : (kind : List ℕ) (own : FieldType Re) → by kind own ≡ meaning_in rules.definitions kind own =
    λ kind own. c.in_ok-resolver.ensures kind own ∙ ap (λ definitions. meaning_in (map definition_stored definitions) kind own) c.deref.ensures.value in
    IfOk-weaker c.with.result _ _
    (λ types are name. are name ∙ ap (λ typings. option_map (type_by by) (typing_for (map typing_stored typings) name)) c.deref-2.ensures.value
    ∙ same_meant (meaning_in rules.definitions) by same (typing_for rules.types name))
    c.with.ensures.types
