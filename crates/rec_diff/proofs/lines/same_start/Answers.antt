use Rattle.std.proofs.Common.{arith}
use Rattle.rec_diff.proofs.lemmas.ShareLemmas.{starts_share, start_fits_new}
use Rattle.rec_diff.proofs.lines.same_start.Goals as goal

pub returns-clause-fits_new : goal.returns-clause-fits_new
returns-clause-fits_new c =
    let so_far = c.loop-o.invariant.so_far in
    let fits = c.loop-o.invariant.fits in
    let none = c.in_default.ensures in
    let most = start_fits_new (starts_share c.args.old.now c.args.new.now) in
    omega arith
