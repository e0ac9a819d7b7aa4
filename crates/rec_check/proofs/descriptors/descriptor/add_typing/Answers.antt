use Rattle.std.proofs.Common.{◌∙◌, ◌∷◌, [], map, ap}
use Rattle.std.proofs.lemmas.List.{map-append}
use Rattle.std.specs.Option.{is_some}
use Rattle.rec_check.specs.Descriptors.{bad_unless}
use Rattle.rec_check.specs.Stored.{typing_stored}
use Rattle.rec_check.proofs.descriptors.descriptor.add_typing.Goals as goal

pub returns : goal.returns
returns c =
    let typing = c.in_ok-typing_in.field-0 in
    let found = c.in_ok-typing_in.ensures.found in (
      ap (λ o. bad_unless (is_some o)) found.1,
      (typing_stored typing, found, ap (map typing_stored) c.in_ok-push.ensures.items ∙ map-append typing_stored c.args.types.now.items (typing ∷ [])),
    )
