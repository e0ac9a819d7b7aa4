use Rattle.std.proofs.Common.{ap, length, arith}
use Rattle.rec_select.proofs.lemmas.printing.PutsLemmas.{Prints-stopped}
use Rattle.rec_select.proofs.lemmas.info.InfoLemmas.{first_head, head_low, head_there, head_stopped, head_taken, heads_taken, next_head}
use Rattle.rec_select.proofs.info.write_descriptors.Goals as goal

pub loop-set-init : goal.loop-set-init
loop-set-init g c = first_head c.args.sets.now _ c.records-records.ensures c.requires

pub overflow_sub-head : goal.overflow_sub-head
overflow_sub-head g c = head_low c.loop-set.invariant c.loop-set-test.true c.set-item.is _ c.in-Some.is

pub part-requires-clause-ordered : goal.part-requires-clause-ordered
part-requires-clause-ordered g c =
    let next = next_head c.loop-set.invariant c.loop-set-test.true c.set-item.is _ _ _ c.records-records.ensures c.in-Some.is c.in-Some-nth.ensures.ran in
    omega (arith, next.is_record.some)

pub part-requires-clause-within : goal.part-requires-clause-within
part-requires-clause-within g c =
    let next = next_head c.loop-set.invariant c.loop-set-test.true c.set-item.is _ _ _ c.records-records.ensures c.in-Some.is c.in-Some-nth.ensures.ran in
    omega (arith, next.is_record.high, next.is_record.is_paragraph.within, ap length c.of-text.ensures.elements)

pub returns-in_err-write_next_block-clause-printed :
    goal.returns-in_err-write_next_block-clause-printed
returns-in_err-write_next_block-clause-printed g c = λ records are.
    let next = next_head c.loop-set.invariant c.loop-set-test.true c.set-item.is _ _ _ c.records-records.ensures c.in-Some.is c.in-Some-nth.ensures.ran in
    Prints-stopped c.from_residual.result c.from_residual.ensures.1
    (head_stopped c.loop-set.invariant next _ _ c.part.ensures c.of-text.ensures.elements c.in_err-write_next_block.ensures.printed records c.records-records.ensures are)

pub overflow_add-passed : goal.overflow_add-passed
overflow_add-passed g c =
    let next = next_head c.loop-set.invariant c.loop-set-test.true c.set-item.is _ _ _ c.records-records.ensures c.in-Some.is c.in-Some-nth.ensures.ran in
    omega (arith, next.countable, c.of-text.ensures.countable, ap length c.of-text.ensures.elements)

pub returns-clause-printed : goal.returns-clause-printed
returns-clause-printed g c = λ records are. heads_taken c.loop-set.invariant c.loop-set-test.false records c.records-records.ensures are

pub loop-set-preserved-in_default-nth : goal.loop-set-preserved-in_default-nth
loop-set-preserved-in_default-nth g c =
    absurd (head_there c.loop-set.invariant c.loop-set-test.true c.set-item.is _ _ c.in-Some.is c.in_default-nth.ensures.ran)

pub loop-set-preserved : goal.loop-set-preserved
loop-set-preserved g c =
    let next = next_head c.loop-set.invariant c.loop-set-test.true c.set-item.is _ _ _ c.records-records.ensures c.in-Some.is c.in-Some-nth.ensures.ran in
    head_taken c.loop-set.invariant next _ _ c.part.ensures c.of-text.ensures.elements c.in_ok-write_next_block.ensures.printed
