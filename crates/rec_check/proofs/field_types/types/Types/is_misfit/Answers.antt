use Rattle.std.proofs.Common.{map, ap, sym, ◌∙◌}
use Rattle.std.proofs.lemmas.Result.{IfOk-weaker}
use Rattle.std.specs.List.{slice_get}
use Rattle.std.specs.Option.{option_and_then}
use Rattle.rec_text.specs.Places.{piece_of}
use Rattle.rec_check.specs.proving.Fitting.{type_tested}
use Rattle.rec_check.specs.proving.Tests.{type_in}
use Rattle.rec_check.proofs.lemmas.field_types.FittingLemmas.{misfits-no_field, misfits-untyped, misfits-typed}
use Rattle.rec_check.proofs.field_types.types.Types.is_misfit.Goals as goal

pub returns-in_default-clause-misfit : goal.returns-in_default-clause-misfit
returns-in_default-clause-misfit c = misfits-no_field (type_in c.args.self.now) (piece_of c.args.element.now) c.in_default.not-Field

pub returns-in_default-get-clause-misfit : goal.returns-in_default-get-clause-misfit
returns-in_default-get-clause-misfit c =
    misfits-untyped (type_in c.args.self.now) (piece_of c.args.element.now) c.in-Field.is c.name.result.now c.name.ensures
    (ap (option_and_then (slice_get (map type_tested c.args.self.now.tests.items))) (sym c.in_default-get.ensures.value))

pub returns-clause-misfit : goal.returns-clause-misfit
returns-clause-misfit c =
    IfOk-weaker c.fails_at.result _ _
    (λ answer is. misfits-typed (type_in c.args.self.now) (piece_of c.args.element.now) c.in-Field.is c.name.result.now c.name.ensures
    (slice_get (map type_tested c.deref_mut.result.now) c.in-Some.place.now) c.bytes.result.now answer
    (ap (option_and_then (slice_get (map type_tested c.args.self.now.tests.items))) (sym c.in-Some.ensures.value)
    ∙ ap (λ tests. slice_get (map type_tested tests) c.in-Some.place.now) (sym c.deref_mut.ensures.value))
    (c.bytes.ensures ∙ c.in_ok-value.ensures.value) is)
    c.fails_at.ensures.fails
