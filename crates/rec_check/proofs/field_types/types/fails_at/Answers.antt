use Rattle.rec_sex.proofs.lemmas.meaning.PatternLemmas.{map-set_same}
use Rattle.rec_check.specs.proving.Fitting.{type_tested}
use Rattle.rec_check.proofs.lemmas.field_types.FittingLemmas.{fails-at}
use Rattle.rec_check.proofs.field_types.types.fails_at.Goals as goal

pub returns-clause-fails : goal.returns-clause-fails
returns-clause-fails c = fails-at type_tested c.args.tests.now c.args.place c.index-tests-place.result c.args.value.now c.in_ok-fits.field-0 c.if-place-tests.false c.in_ok-fits.ensures.fits

pub returns-clause-same : goal.returns-clause-same
returns-clause-same c = map-set_same type_tested c.args.tests.now c.args.place c.index-tests-place.result c.fits.new.self c.if-place-tests.false c.fits.ensures.same

pub returns-in_err-fits-clause-same : goal.returns-in_err-fits-clause-same
returns-in_err-fits-clause-same c = map-set_same type_tested c.args.tests.now c.args.place c.index-tests-place.result c.fits.new.self c.if-place-tests.false c.fits.ensures.same
