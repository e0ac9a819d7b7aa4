use Rattle.std.proofs.Common.{◌≡◌, ◌∙◌, ◌+◌, ◌++◌, ◌∷◌, [], ℕ, drop, get_or, length, refl, ap, sym, subst, arith, append_assoc, unwrap_or}
use Rattle.std.proofs.lemmas.List.{get_or_default}
use Rattle.std.proofs.lemmas.Result.{on_ok_weaker}
use Rattle.std.specs.Prelude.{if◌then◌else◌}
use Rattle.std.specs.declared.ops.Range.{Range}
use Rattle.rec_text.specs.declared.violations.Rule.TheVariants.{Size}
use Rattle.rec_text.specs.Places.{pieces_of}
use Rattle.rec_text.specs.Records.{AreAscending, elements_in}
use Rattle.rec_check.specs.Stored.{rules_stored}
use Rattle.rec_check.specs.Violations.{breaks_size, line_at, resolves, unresolved_violations, violation}
use Rattle.rec_check.proofs.lemmas.checks.AheadLemmas.{ahead_of_head, head_inside, head_is, here_more}
use Rattle.rec_check.proofs.lemmas.checks.UnresolvedLemmas.{head_violations-at}
use Rattle.rec_check.proofs.checks.report.check_head.Goals as goal

pub returns-clause-added : goal.returns-clause-added
returns-clause-added c =
    let elements = c.args.lines.now.elements.now in
    let records = c.args.records.now in
    let asked = rules_stored c.args.rules.now in
    let s = c.args.set.now in
    let head = c.in-Some.head in
    let none : Range ℕ = record { start = 0; end = 0 } in
    let range : Range ℕ = get_or records head none in
    let inside = head_inside records (length elements) c.args.lines.now.passed head s c.requires.next c.in-Some.is in
    let found = c.args.found.now.items in
    let sized = if breaks_size asked s then violation (line_at (pieces_of elements) range.start) Size (unwrap_or s.kind []) ∷ [] else [] in
    let kinds = unresolved_violations (pieces_of elements) (resolves asked.definitions) range.start (elements_in (pieces_of elements) range) in
    on_ok_weaker c.check_kinds.result
    (λ added. added
    ∙ ap (λ l. c.check_size.new.found.items ++ unresolved_violations (pieces_of l) (resolves asked.definitions) range.start (elements_in (pieces_of l) range)) c.in_ok-check_size.ensures.elements
    ∙ ap (λ l. l ++ kinds) c.in_ok-check_size.ensures.added ∙ append_assoc found sized kinds
    ∙ ap (λ l. found ++ l) (sym (head_violations-at (pieces_of elements) records asked s head range none c.in-Some.is inside refl)))
    c.check_kinds.ensures.added

pub returns-clause-ahead : goal.returns-clause-ahead
returns-clause-ahead c =
    let size = length c.args.lines.now.elements.now in
    let records = c.args.records.now in
    let passed = c.args.lines.now.passed in
    let s = c.args.set.now in
    let head = c.in-Some.head in
    let none : Range ℕ = record { start = 0; end = 0 } in
    let range : Range ℕ = get_or records head none in
    let inside = head_inside records size passed head s c.requires.next c.in-Some.is in
    let at : range ≡ get_or records head range = get_or_default records head none range inside in
    let place = head_is records size passed head s c.requires.next c.in-Some.is in
    let then_is : head + 1 ≡ s.members.start = omega (arith, place.0, place.1) in
    let ahead = ahead_of_head records size passed head s c.requires.next c.in-Some.is in
    let reached = c.check_kinds.new.lines.passed in
    on_ok_weaker c.check_kinds.result
    (λ low. subst (λ n. AreAscending reached (drop n records)) then_is (here_more records head range inside at passed reached low ahead))
    c.check_kinds.ensures.passed
