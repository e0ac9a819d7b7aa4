use Rattle.std.proofs.Common.{◌∙◌, ◌++◌, ◌∷◌, [], Some, cond, map, take, ap, sym, arith, unwrap_or}
use Rattle.std.proofs.lemmas.List.{length-map, length-take-le, map_more, map_push, take_all}
use Rattle.std.specs.Option.{option_map}
use Rattle.rec_check.specs.proving.Fitting.{place_of, type_tested}
use Rattle.rec_check.specs.proving.Resolved.{meaning_by}
use Rattle.rec_check.specs.Rules.{type_by, typing_for}
use Rattle.rec_check.specs.Stored.{type_stored, typing_stored}
use Rattle.rec_check.specs.Types.{unchecked}
use Rattle.rec_text.specs.Bytes.{is_among}
use Rattle.rec_check.proofs.lemmas.field_types.FittingLemmas.{LeadsTo-more, LeadsTo-type}
use Rattle.rec_check.proofs.field_types.types.Types.with.Goals as goal

pub loop-place-preserved : goal.loop-place-preserved
loop-place-preserved c =
    let meaning = meaning_by c.args.resolver.now in
    let one = c.index-typings-place.result in
    let so_far = map typing_stored (take c.loop-place.place c.args.typings.now) in
    let type_is = c.of.ensures ∙ ap (λ o. unwrap_or o unchecked) (c.meaning_of-value_type.ensures ∙ ap (λ kind. meaning kind (type_stored one.value_type)) c.as_slice.ensures) in
    LeadsTo-more (type_by meaning) so_far _ (typing_stored one) (map type_tested c.loop-place.tests.items) _ (place_of c.loop-place.places) (place_of c.place_names.new.places) c.loop-place.place
    c.loop-place.invariant (map_more typing_stored c.args.typings.now c.loop-place.place one c.loop-place-test.true ∙ ap (λ t. so_far ++ typing_stored t ∷ []) (sym c.index-typings-place.is))
    (ap (map type_tested) c.in_ok-push.ensures.items ∙ map_push type_tested c.loop-place.tests.items c.of.result ∙ ap (λ t. map type_tested c.loop-place.tests.items ++ t ∷ []) type_is)
    (omega (arith, length-map (take c.loop-place.place c.args.typings.now) typing_stored, length-take-le c.loop-place.place c.args.typings.now (omega arith)))
    (λ name. c.in_ok-place_names.ensures.places name ∙ ap (λ l. cond (is_among l name) (Some c.loop-place.place) (place_of c.loop-place.places name)) c.deref.ensures.value)

pub returns-clause-types : goal.returns-clause-types
returns-clause-types c = λ name.
    let by = type_by (meaning_by c.args.resolver.now) in
    let typings = map typing_stored (take c.loop-place.place c.args.typings.now) in
    LeadsTo-type by typings (map type_tested c.loop-place.tests.items) (place_of c.loop-place.places) c.loop-place.invariant name
    ∙ ap (λ l. option_map by (typing_for (map typing_stored l) name)) (take_all c.loop-place.place c.args.typings.now c.loop-place-test.false)
