use Rattle.std.proofs.Common.{◌∙◌, ◌-◌, ap, sym, arith, refl}
use Rattle.rec_check.specs.proving.Steps.{with_record}
use Rattle.rec_check.proofs.lemmas.SetLemmas.{with_member-set}
use Rattle.rec_check.proofs.set.add_record.Goals as goal

pub returns-in-Some-last_mut : goal.returns-in-Some-last_mut
returns-in-Some-last_mut c =
    let size = c.args.sets.now.ok.0 in
    let some = c.in-Some-last_mut.ensures.variant.0 refl in
    sym (with_member-set c.args.sets.now.items (c.args.sets.now.len - 1) c.args.index c.in-Some-last_mut.last.now (omega arith) c.in-Some-last_mut.ensures.value)
    ∙ sym (ap (with_record c.args.sets.now.items c.args.index) c.in-None.is)
