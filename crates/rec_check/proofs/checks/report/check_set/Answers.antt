use Rattle.std.proofs.Common.{ap, drop, length, subst}
use Rattle.std.proofs.lemmas.Result.{on_ok_weaker}
use Rattle.rec_text.specs.Places.{pieces_of}
use Rattle.rec_check.specs.Checks.{AddsOfRecords}
use Rattle.rec_check.specs.Stored.{rules_stored}
use Rattle.rec_check.specs.Violations.{members}
use Rattle.rec_check.proofs.lemmas.checks.AheadLemmas.{ahead_of_part, part_within, part_and_rest}
use Rattle.rec_check.proofs.lemmas.checks.ReportLemmas.{AddsOfSet-joined}
use Rattle.rec_check.proofs.checks.report.check_set.Goals as goal

pub check_records-requires : goal.check_records-requires
check_records-requires c = record {
  ahead = ahead_of_part c.args.records.now c.args.set.now c.check_head.new.lines.passed c.in_ok-check_head.ensures.ahead;
  within = part_within c.args.records.now c.args.set.now (length c.args.lines.now.elements.now) (length c.check_head.new.lines.elements.now) c.requires.within
      (ap length c.in_ok-check_head.ensures.elements);
}

pub returns-clause-added : goal.returns-clause-added
returns-clause-added c =
    let asked = rules_stored c.args.rules.now in
    on_ok_weaker c.check_records.result
    (λ added. AddsOfSet-joined (pieces_of c.args.lines.now.elements.now) c.args.records.now c.args.set.now asked c.args.found.now.items c.check_head.new.found.items c.check_records.new.found.items
    c.in_ok-check_head.ensures.added
    (subst (λ l. AddsOfRecords (pieces_of l) asked (members c.args.records.now c.args.set.now) c.check_head.new.found.items c.check_records.new.found.items) c.in_ok-check_head.ensures.elements added))
    c.check_records.ensures.added

pub returns-clause-ahead : goal.returns-clause-ahead
returns-clause-ahead c =
    c.check_records.ensures.ahead (drop c.args.set.now.members.end c.args.records.now)
    (part_and_rest c.args.records.now c.args.set.now c.check_head.new.lines.passed c.requires.next.begins.0 c.in_ok-check_head.ensures.ahead)
