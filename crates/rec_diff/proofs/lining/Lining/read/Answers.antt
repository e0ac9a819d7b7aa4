use Rattle.std.proofs.Common.{ap, length, arith}
use Rattle.rec_diff.proofs.lemmas.RestLemmas.{OnOk-map, hunk_fits, read_by}
use Rattle.rec_diff.proofs.lining.Lining.read.Goals as goal

pub stay-requires-clause-old : goal.stay-requires-clause-old
stay-requires-clause-old c = (hunk_fits _ _ c.args.self.now c.args.hunk.now c.requires.lining c.requires.next.later c.requires.next.leads).stay_old

pub stay-requires-clause-new : goal.stay-requires-clause-new
stay-requires-clause-new c = (hunk_fits _ _ c.args.self.now c.args.hunk.now c.requires.lining c.requires.next.later c.requires.next.leads).stay_new

pub stay-requires-clause-same : goal.stay-requires-clause-same
stay-requires-clause-same c = (hunk_fits _ _ c.args.self.now c.args.hunk.now c.requires.lining c.requires.next.later c.requires.next.leads).same

pub turn-requires-clause-old : goal.turn-requires-clause-old
turn-requires-clause-old c =
    let f = hunk_fits _ _ c.args.self.now c.args.hunk.now c.requires.lining c.requires.next.later c.requires.next.leads in
    omega (arith, f.turn_old, f.kept, c.in_ok-stay.ensures.old_here, ap length c.as_slice-old.ensures)

pub turn-requires-clause-new : goal.turn-requires-clause-new
turn-requires-clause-new c =
    let f = hunk_fits _ _ c.args.self.now c.args.hunk.now c.requires.lining c.requires.next.later c.requires.next.leads in
    omega (arith, f.turn_new, f.kept, c.in_ok-stay.ensures.new_here, ap length c.as_slice-new.ensures)

pub overflow_sub-kept : goal.overflow_sub-kept
overflow_sub-kept c = (hunk_fits _ _ c.args.self.now c.args.hunk.now c.requires.lining c.requires.next.later c.requires.next.leads).order

pub returns : goal.returns
returns c =
    OnOk-map _ _ c.turn.result
    (read_by _ _ c.args.self.now c.stay.new.self c.turn.new.self c.args.hunk.now _ _ c.requires.lining c.requires.next c.as_slice-old.ensures c.as_slice-new.ensures c.in_ok-stay.ensures)
    c.turn.ensures
