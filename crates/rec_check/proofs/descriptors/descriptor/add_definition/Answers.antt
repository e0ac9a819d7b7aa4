use Rattle.std.proofs.Common.{◌∙◌, ◌∷◌, [], map, ap}
use Rattle.std.proofs.lemmas.List.{map-append}
use Rattle.std.specs.Option.{is_some}
use Rattle.rec_check.specs.Descriptors.{bad_unless}
use Rattle.rec_check.specs.Stored.{definition_stored}
use Rattle.rec_check.proofs.descriptors.descriptor.add_definition.Goals as goal

pub returns : goal.returns
returns c =
    let definition = c.in_ok-definition_in.field-0 in
    let found = c.in_ok-definition_in.ensures.found in (
      ap (λ o. bad_unless (is_some o)) found.1,
      (definition_stored definition, found, ap (map definition_stored) c.in_ok-push.ensures.items ∙ map-append definition_stored c.args.definitions.now.items (definition ∷ [])),
    )
