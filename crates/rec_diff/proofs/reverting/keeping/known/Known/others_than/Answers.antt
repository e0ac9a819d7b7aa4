use Rattle.std.proofs.Common.{◌+◌, get_or, subst, sym, take, take_all}
use Rattle.std.proofs.lemmas.List.{take_more}
use Rattle.std.proofs.lemmas.Option.{slice_get-get_or}
use Rattle.rec_diff.specs.proving.Keeping.{AreOthers, IsPutBy, listed_unless}
use Rattle.rec_diff.specs.proving.Reading.{placed_of}
use Rattle.rec_diff.proofs.lemmas.reverting.KeepingLemmas.{others_step}
use Rattle.rec_diff.proofs.lemmas.reverting.ListLemmas.{is_at, there}
use Rattle.rec_diff.proofs.reverting.keeping.known.Known.others_than.Goals as goal

pub loop-record-preserved : goal.loop-record-preserved
loop-record-preserved c = λ ahead back beside no_other.
    let r = c.args.self.readings.now in
    let records = c.args.records.now in
    let others = c.loop-record.others.items in
    let i = c.loop-record.record-index in
    let n = get_or records i 0 in
    let (own, at) = there (placed_of r.left).records n (c.requires.records n (is_at records i n (slice_get-get_or records i 0 c.loop-record-test.true))) in
    let P = IsPutBy c.args.led.now ahead back (placed_of r.before) (placed_of r.here) (placed_of r.left) in
    subst (AreOthers P (placed_of r.left) (take (i + 1) records)) (sym c.in_ok-add_unless.ensures)
    (subst (λ l. AreOthers P (placed_of r.left) l (listed_unless c.is_put_together-is_put.result n others)) (sym (take_more records i 0 c.loop-record-test.true))
    (others_step P (placed_of r.left) (take i records) others n own c.is_put_together-is_put.result at (c.is_put_together-is_put.ensures ahead back own beside no_other at)
    (c.loop-record.invariant ahead back beside no_other)))

pub returns : goal.returns
returns c = λ ahead back beside no_other.
    let r = c.args.self.readings.now in
    let records = c.args.records.now in
    subst (λ l. AreOthers (IsPutBy c.args.led.now ahead back (placed_of r.before) (placed_of r.here) (placed_of r.left)) (placed_of r.left) l c.loop-record.others.items)
    (take_all c.loop-record.record-index records c.loop-record-test.false) (c.loop-record.invariant ahead back beside no_other)
