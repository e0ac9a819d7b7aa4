use Rattle.std.proofs.Common.{◌∙◌, ap, sym}
use Rattle.rec_check.specs.proving.Fitting.{place_of}
use Rattle.rec_check.specs.Resolving.{is_known_kind}
use Rattle.rec_check.specs.Stored.{definition_stored}
use Rattle.rec_check.proofs.lemmas.field_types.ResolvedLemmas.{IsRight-known, IsRight-defined, IsRight-undefined}
use Rattle.rec_check.proofs.field_types.resolution.first_meaning.Goals as goal

pub returns-then-is_known_kind : goal.returns-then-is_known_kind
returns-then-is_known_kind c = λ definitions are.
    IsRight-known definitions (place_of c.args.places.now) are (definition_stored c.args.definition.now) (ap is_known_kind (sym c.as_slice-kind.ensures) ∙ sym c.is_known_kind.ensures
    ∙ c.if-is_known_kind.true)

pub returns-in-Some : goal.returns-in-Some
returns-in-Some c = λ definitions are.
    IsRight-defined definitions (place_of c.args.places.now) are (definition_stored c.args.definition.now) c.in-Some.place.now (ap is_known_kind (sym c.as_slice-kind.ensures)
    ∙ sym c.is_known_kind.ensures ∙ c.if-is_known_kind.false)
    (ap (place_of c.args.places.now) (sym c.as_slice-kind.ensures) ∙ sym c.in-Some.ensures.value)

pub returns-in-None : goal.returns-in-None
returns-in-None c = λ definitions are.
    IsRight-undefined definitions (place_of c.args.places.now) are (definition_stored c.args.definition.now) (ap is_known_kind (sym c.as_slice-kind.ensures) ∙ sym c.is_known_kind.ensures
    ∙ c.if-is_known_kind.false)
    (ap (place_of c.args.places.now) (sym c.as_slice-kind.ensures) ∙ sym c.in-None.ensures.value)
