use Rattle.std.proofs.Common.{◌≡◌, ◌∙◌, ◌<◌, ◌≤◌, None, map, length, get_or, ap, sym, subst, arith}
use Rattle.std.proofs.lemmas.List.{get_or-map, length-map, length_push}
use Rattle.std.proofs.lemmas.Slice.Zip.{zip_turn, zip_end}
use Rattle.std.specs.Iterator.Adapters.{zip_first, zip_second}
use Rattle.std.specs.Slice.Iter.{iter_rest}
use Rattle.rec_text.specs.Places.{piece_of, pieces_of}
use Rattle.rec_text.specs.Records.{AreRecords}
use Rattle.rec_check.specs.declared.rules.Rules.{Rules}
use Rattle.rec_check.specs.declared.set.Set_.{Set_}
use Rattle.rec_check.specs.Stored.{rules_stored}
use Rattle.rec_check.proofs.lemmas.DescribedLemmas.{IsReported, same_length, no_size, next_set, records_within, set_within, reported_more, all_reported}
use Rattle.rec_check.proofs.checks.report.violations_of.Goals as goal
use Rattle.rec_check.proofs.checks.report.violations_of.Goals.{After-into_iter-set-iterator, In-Some}

first_rest : (c : After-into_iter-set-iterator) → iter_rest (zip_first c.into_iter-set-iterator.result) ≡ c.args.sets.now
first_rest c = ap (λ z. iter_rest (zip_first z)) c.into_iter-set-iterator.ensures.into_iter_gives ∙ ap iter_rest c.zip-set-items.ensures.first ∙ c.iter.ensures.rest

second_rest : (c : After-into_iter-set-iterator) → iter_rest (zip_second c.into_iter-set-iterator.result) ≡ c.args.rules.now
second_rest c = ap (λ z. iter_rest (zip_second z)) c.into_iter-set-iterator.ensures.into_iter_gives ∙ c.zip-set-items.ensures.second.0

-- where this turn's set and rules stand
turn : (c : In-Some) → (length c.loop-set.yielded < length c.args.sets.now) × (length c.loop-set.yielded < length c.args.rules.now)
    × ((d : Set_) → c.in-Some.set.now ≡ get_or c.args.sets.now (length c.loop-set.yielded) d) × ((d : Rules) → c.in-Some.rules.now ≡ get_or c.args.rules.now (length c.loop-set.yielded) d)
turn c =
    let at = goal.at.In-Some c in
    zip_turn c.args.sets.now c.args.rules.now c.loop-set.yielded c.into_iter-set-iterator.result c.loop-set.set-iterator c.next.new.self c.next.result (first_rest at.After-into_iter-set-iterator)
    (second_rest at.After-into_iter-set-iterator)
    c.loop-set.yielded_by (c.in-Some.set, c.in-Some.rules) c.in-Some.is c.next.ensures.steps

pub check_set-requires : goal.check_set-requires
check_set-requires c =
    let at = goal.at.check_set-requires c in
    let turn = turn at.In-Some in
    let pieces = c.args.database.now in
    let sets = c.args.sets.now in
    let records = c.as_slice-records.result.now in
    let are : AreRecords pieces records = subst (AreRecords pieces) (sym c.as_slice-records.ensures) c.records.ensures in
    let place = length c.loop-set.yielded in
    let ends = subst (λ (s : Set_). s.members.end ≤ length records) (sym (turn.2 c.in-Some.set.now)) (set_within pieces sets c.args.rules.now c.requires records are place c.in-Some.set.now turn.0) in
    record {
      ruled = subst (λ (s : Set_). s.head ≡ None → c.in-Some.rules.now.size ≡ None) (sym (turn.2 c.in-Some.set.now))
          (subst (λ (r : Rules). (get_or sets place c.in-Some.set.now).head ≡ None → r.size ≡ None) (sym (turn.3 c.in-Some.rules.now))
          (no_size pieces sets c.args.rules.now c.requires place c.in-Some.set.now c.in-Some.rules.now turn.0));
      next =
          next_set pieces (pieces_of c.loop-set.lines.elements.now) records sets (map rules_stored c.args.rules.now) place c.loop-set.lines.passed c.loop-set.found.items c.loop-set.invariant
          c.in-Some.set.now (turn.2 c.in-Some.set.now) turn.0 ends;
      within =
          records_within pieces sets c.args.rules.now c.requires records are (length c.loop-set.lines.elements.now)
          (omega (arith, length-map c.loop-set.lines.elements.now piece_of, ap length c.loop-set.invariant.elements));
    }

pub loop-set-preserved : goal.loop-set-preserved
loop-set-preserved c =
    let at = goal.at.loop-set-preserved c in
    let turn = turn at.In-Some in
    let pieces = c.args.database.now in
    let sets = c.args.sets.now in
    let asked = map rules_stored c.args.rules.now in
    let records = c.as_slice-records.result.now in
    let place = length c.loop-set.yielded in
    let own = rules_stored c.in-Some.rules.now in
    let long = same_length pieces sets c.args.rules.now c.requires in
    let own_at : own ≡ get_or asked place own = ap rules_stored (turn.3 c.in-Some.rules.now) ∙ sym (get_or-map rules_stored c.args.rules.now place c.in-Some.rules.now own turn.1) in
    let step =
    reported_more pieces (pieces_of c.loop-set.lines.elements.now) records sets asked place c.loop-set.lines.passed c.loop-set.found.items c.loop-set.invariant c.in-Some.set.now
    (turn.2 c.in-Some.set.now) turn.0
    own c.check_set.new.lines.passed (pieces_of c.check_set.new.lines.elements.now) c.check_set.new.found.items own_at
    (omega (arith, long, length-map c.args.rules.now rules_stored)) (ap pieces_of c.in_ok-check_set.ensures.elements)
    c.in_ok-check_set.ensures.ahead
    c.in_ok-check_set.ensures.added in
    subst (λ n. IsReported pieces (pieces_of c.check_set.new.lines.elements.now) records sets asked n c.check_set.new.lines.passed c.check_set.new.found.items)
    (sym (length_push c.loop-set.yielded (c.in-Some.set, c.in-Some.rules))) step

pub returns-clause-violations : goal.returns-clause-violations
returns-clause-violations c =
    let at = goal.at.returns-clause-violations c in
    let pieces = c.args.database.now in
    let sets = c.args.sets.now in
    let end =
    zip_end sets c.args.rules.now c.loop-set.yielded c.into_iter-set-iterator.result c.loop-set.set-iterator c.next.new.self c.next.result (first_rest at.After-into_iter-set-iterator)
    (second_rest at.After-into_iter-set-iterator)
    c.loop-set.yielded_by c.in-None.is c.next.ensures.steps in
    let long = same_length pieces sets c.args.rules.now c.requires in
    let are : AreRecords pieces c.as_slice-records.result.now = subst (AreRecords pieces) (sym c.as_slice-records.ensures) c.records.ensures in
    all_reported pieces (pieces_of c.loop-set.lines.elements.now) c.as_slice-records.result.now sets (map rules_stored c.args.rules.now)
    (length c.loop-set.yielded) c.loop-set.lines.passed c.loop-set.found.items are
    (omega (arith, end, long)) (omega (arith, end, long, length-map c.args.rules.now rules_stored)) c.loop-set.invariant
