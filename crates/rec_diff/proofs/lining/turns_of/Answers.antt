use Rattle.std.proofs.Common.{◌≡◌, [], map, arith}
use Rattle.rec_diff.specs.Changes.{cut_from}
use Rattle.rec_diff.specs.WholeLines.{whole_lines}
use Rattle.rec_diff.specs.proving.Turns.{AreAll, AreIn, sites, site_of}
use Rattle.rec_diff.proofs.lemmas.RestLemmas.{IfOk-map, all_read, is_next, next_read, rest_fits}
use Rattle.rec_diff.proofs.lining.turns_of.Goals as goal

pub read-requires-clause-next : goal.read-requires-clause-next
read-requires-clause-next c =
    is_next _ _ c.args.hunks.now c.loop-hunk.hunk-index c.loop-hunk.lining c.hunk-item.result c.loop-hunk.invariant.leads c.loop-hunk-test.true c.hunk-item.is

pub loop-hunk-preserved : goal.loop-hunk-preserved
loop-hunk-preserved c =
    let inv = c.loop-hunk.invariant in
    let more =
    next_read _ _ c.args.hunks.now c.loop-hunk.hunk-index c.loop-hunk.lining c.read.new.self c.hunk-item.result inv.leads inv.found c.loop-hunk-test.true c.hunk-item.is c.in_ok-read.ensures in
    record { sound = more.0; leads = more.1; found = more.2 }

pub stay-requires-clause-old : goal.stay-requires-clause-old
stay-requires-clause-old c =
    let inv = c.loop-hunk.invariant in
    let fits = rest_fits _ _ c.args.hunks.now c.loop-hunk.hunk-index c.loop-hunk.lining inv.sound inv.leads c.loop-hunk-test.false in
    omega (arith, fits.old, c.rest_of-rest.ensures)

pub stay-requires-clause-new : goal.stay-requires-clause-new
stay-requires-clause-new c =
    let inv = c.loop-hunk.invariant in
    let fits = rest_fits _ _ c.args.hunks.now c.loop-hunk.hunk-index c.loop-hunk.lining inv.sound inv.leads c.loop-hunk-test.false in
    omega (arith, fits.new, c.rest_of-rest.ensures)

pub stay-requires-clause-same : goal.stay-requires-clause-same
stay-requires-clause-same c =
    let inv = c.loop-hunk.invariant in
    rw c.rest_of-rest.ensures (rest_fits _ _ c.args.hunks.now c.loop-hunk.hunk-index c.loop-hunk.lining inv.sound inv.leads c.loop-hunk-test.false).same

pub returns-clause-places : goal.returns-clause-places
returns-clause-places c =
    let reads = rw c.rest_of-rest.ensures at c.in_ok-stay.ensures in
    IfOk-map c.finish.result (λ ts. AreAll c.args.texts.before.now c.args.texts.after.now c.stay.new.self ts.items)
    (λ ts. map (site_of c.args.texts.before.now c.args.texts.after.now) ts.items ≡ sites [] [] (whole_lines (cut_from 0 c.args.hunks.now c.args.texts.before.now)))
    (λ ts are. all_read _ _ c.args.hunks.now c.loop-hunk.hunk-index c.loop-hunk.lining c.stay.new.self ts.items c.loop-hunk.invariant.found c.loop-hunk-test.false reads are)
    c.finish.ensures

pub returns-clause-order : goal.returns-clause-order
returns-clause-order c =
    IfOk-map c.finish.result (λ ts. AreAll c.args.texts.before.now c.args.texts.after.now c.stay.new.self ts.items)
    (λ ts. AreIn c.args.texts.before.now c.args.texts.after.now 0 0 ts.items) (λ ts are. are.order) c.finish.ensures
