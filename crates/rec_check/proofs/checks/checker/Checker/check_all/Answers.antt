use Rattle.std.proofs.Common.{◌≡◌, ◌∙◌, ◌++◌, ◌∷◌, [], ℕ, get_or, map, take, ap, sym, subst}
use Rattle.std.proofs.lemmas.List.{drop_all, get_or_default, map_more}
use Rattle.std.specs.declared.ops.Range.{Range}
use Rattle.rec_text.specs.Places.{pieces_of}
use Rattle.rec_text.specs.Records.{AreAscending, elements_in}
use Rattle.rec_check.specs.Checks.{AddsOfRecord}
use Rattle.rec_check.specs.proving.Ready.{IsReady}
use Rattle.rec_check.proofs.lemmas.checks.AheadLemmas.{ahead_more, here_more}
use Rattle.rec_check.proofs.lemmas.checks.ReportLemmas.{AddsOfRecords-more}
use Rattle.rec_check.proofs.checks.checker.Checker.check_all.Goals as goal

pub loop-record-preserved : goal.loop-record-preserved
loop-record-preserved c =
    let pieces = pieces_of c.args.lines.now.elements.now in
    let records = c.args.records.now in
    let i = c.loop-record.record-index in
    let one : Range ℕ = get_or records i (record { start = 0; end = 0 }) in
    let at : one ≡ get_or records i one = get_or_default records i (record { start = 0; end = 0 }) one c.loop-record-test.true in
    let earlier = map (elements_in pieces) (take i records) in
    record {
      ready = λ rules first. subst (λ l. IsReady rules l c.check.new.self) (ap (λ l. earlier ++ elements_in (pieces_of l) one ∷ []) c.loop-record.invariant.elements
          ∙ sym (map_more (elements_in pieces) records i (record { start = 0; end = 0 }) c.loop-record-test.true))
          (c.in_ok-check.ensures.ready rules earlier (c.loop-record.invariant.ready rules first));
      added = λ rules first. AddsOfRecords-more pieces rules records i one c.args.found.now.items c.loop-record.found.items c.check.new.found.items c.loop-record-test.true at
          (c.loop-record.invariant.added rules first) (subst (λ l. AddsOfRecord (pieces_of l) rules earlier one c.loop-record.found.items c.check.new.found.items) c.loop-record.invariant.elements
          (c.in_ok-check.ensures.added rules earlier (c.loop-record.invariant.ready rules first)));
      here = here_more records i one c.loop-record-test.true at c.loop-record.lines.passed c.check.new.lines.passed c.in_ok-check.ensures.passed c.loop-record.invariant.here;
      ahead = λ rest ahead. ahead_more records i one c.loop-record-test.true at c.loop-record.lines.passed c.check.new.lines.passed rest c.in_ok-check.ensures.passed
          (c.loop-record.invariant.ahead rest ahead);
      elements = c.in_ok-check.ensures.elements ∙ c.loop-record.invariant.elements;
    }

pub returns-clause-ahead : goal.returns-clause-ahead
returns-clause-ahead c = λ rest ahead.
    subst (λ l. AreAscending c.loop-record.lines.passed (l ++ rest)) (drop_all c.loop-record.record-index c.args.records.now c.loop-record-test.false) (c.loop-record.invariant.ahead rest ahead)
