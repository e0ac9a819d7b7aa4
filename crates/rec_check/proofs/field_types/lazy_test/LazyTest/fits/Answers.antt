use Rattle.rec_check.proofs.field_types.lazy_test.LazyTest.fits.Goals as goal

pub passes-requires : goal.passes-requires
passes-requires c = c.args.self.now.serves c.in-Some.test c.in-Some.is
