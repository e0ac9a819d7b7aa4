use Rattle.std.proofs.Common.{arith}
use Rattle.rec_diff.proofs.lemmas.ShareLemmas.{ends_share, end_fits_new}
use Rattle.rec_diff.proofs.lines.same_end.Goals as goal

pub returns-clause-fits_new : goal.returns-clause-fits_new
returns-clause-fits_new c =
    let so_far = c.loop-o.invariant.so_far in
    let fits = c.loop-o.invariant.fits in
    let none = c.in_default.ensures in
    let most = end_fits_new (ends_share c.args.old.now c.args.new.now) in
    omega arith
