use Rattle.std.proofs.Common.{arith}
use Rattle.rec_diff.proofs.lemmas.BackLemmas.{forward}
use Rattle.rec_diff.proofs.lemmas.DiffLemmas.{composed_leads, on_leads, written}
use Rattle.rec_diff.proofs.diffs.write_diff.Goals as goal

pub compose-requires : goal.compose-requires
compose-requires g c = record { leads = forward c.args.direction c.args.steps.now c.args.here.now c.args.there.now (omega arith) (omega arith) c.requires.leads }

pub hunks_on-requires : goal.hunks_on-requires
hunks_on-requires g c =
    record {
      leads = composed_leads c.args.direction c.args.steps.now c.in_ok-patch.patch.items c.args.here.now c.args.there.now (omega arith) (omega arith) c.requires.leads c.in_ok-patch.ensures.composed;
    }

pub write_change-requires : goal.write_change-requires
write_change-requires g c =
    rw c.deref.ensures.value
    (on_leads c.args.direction c.args.steps.now c.in_ok-patch.patch.items c.in_ok-hunks.hunks.items c.args.here.now c.args.there.now c.requires.leads c.in_ok-patch.ensures.composed
    c.in_ok-hunks.ensures)

pub returns-clause-written : goal.returns-clause-written
returns-clause-written g c =
    written c.args.direction c.args.style.now c.args.steps.now c.in_ok-patch.patch.items c.in_ok-hunks.hunks.items c.args.here.now c.args.there.now c.in_ok-patch.ensures.composed c.in_ok-hunks.ensures
    c.write_change.result (rw c.deref.ensures.value at c.write_change.ensures.written)
