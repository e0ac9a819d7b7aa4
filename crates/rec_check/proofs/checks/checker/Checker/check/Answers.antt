use Rattle.std.proofs.Common.{◌≡◌, ◌++◌, ◌∷◌, [], ◌∙◌, ap, arith, subst}
use Rattle.std.proofs.lemmas.Result.{on_ok_weaker}
use Rattle.rec_text.specs.Places.{pieces_of}
use Rattle.rec_check.specs.proving.Constraints.{terms_in}
use Rattle.rec_text.specs.Records.{elements_in}
use Rattle.rec_check.specs.Violations.{type_violations}
use Rattle.rec_check.specs.proving.Keys.{IsKeyAfter}
use Rattle.rec_check.specs.proving.Names.{allows}
use Rattle.rec_check.specs.proving.Singulars.{IsSingularAfter}
use Rattle.rec_check.specs.proving.Tests.{type_in}
use Rattle.rec_check.proofs.lemmas.checks.ReportLemmas.{AddsOfRecord-joined, elements_in-end}
use Rattle.rec_check.proofs.checks.checker.Checker.check.Goals as goal
use Rattle.rec_check.proofs.checks.checker.Checker.check.Goals.{After-elements_in-fields}

fields_are : (c : After-elements_in-fields) → pieces_of c.elements_in-fields.result.now ≡ elements_in (pieces_of c.args.lines.now.elements.now) c.args.range.now
fields_are c = c.elements_in-fields.ensures.pieces ∙ ap (λ l. elements_in (pieces_of l) c.args.range.now) (c.elements.ensures ∙ c.line_of-line.ensures.same)

pub returns-clause-added : goal.returns-clause-added
returns-clause-added c = λ rules earlier ready.
    let at = goal.at.returns-clause-added c in
    let own = c.args.self.now in
    on_ok_weaker c.check-8.result
    (AddsOfRecord-joined (pieces_of c.args.lines.now.elements.now) rules earlier c.args.range.now c.line_of-line.result (pieces_of c.elements_in-fields.result.now) c.line_of-line.ensures.line
    (fields_are at.After-elements_in-fields)
    c.args.found.now.items c.check.new.found.items c.check-2.new.found.items c.check-3.new.found.items c.check-4.new.found.items c.check-5.new.found.items c.check-6.new.found.items
    c.check-7.new.found.items c.check-8.new.found.items
    own.key.name.now own.mandatory.rule own.prohibited.rule own.unique.rule own.mandatory.names own.prohibited.names own.unique.names
    (allows own.allowed) (type_in own.types) (terms_in own.constraints)
    ready.key ready.mandatory.0 ready.mandatory.1 ready.prohibited.0 ready.prohibited.1 ready.unique.0 ready.unique.1 ready.allowed ready.types ready.constraints
    (c.in_ok-check.ensures.added earlier ready.after) c.in_ok-check-2.ensures.added c.in_ok-check-3.ensures.added c.in_ok-check-4.ensures.added
    (c.in_ok-check-5.ensures.added rules.singular earlier ready.singular) c.in_ok-check-6.ensures.added
    (c.in_ok-check-7.ensures.added ∙ ap (λ l. c.check-6.new.found.items ++ type_violations (pieces_of l) (type_in own.types) c.args.range.now.start (pieces_of c.elements_in-fields.result.now))
    c.line_of-line.ensures.same))
    c.check-8.ensures.added

pub returns-clause-ready : goal.returns-clause-ready
returns-clause-ready c = λ rules earlier ready.
    let at = goal.at.returns-clause-ready c in
    let are = fields_are at.After-elements_in-fields in
    on_ok_weaker c.check-8.result
    (λ same. record {
      key = ap (λ name. name.now) c.check.ensures.name ∙ ready.key;
      after = subst (λ fields. IsKeyAfter c.check.new.self (earlier ++ fields ∷ [])) are (c.in_ok-check.ensures.after earlier ready.after);
      mandatory = ready.mandatory;
      prohibited = ready.prohibited;
      unique = ready.unique;
      singular = subst (λ fields. IsSingularAfter rules.singular (earlier ++ fields ∷ []) c.check-5.new.self) are (c.in_ok-check-5.ensures.after rules.singular earlier ready.singular);
      allowed = ready.allowed;
      types = λ name. c.in_ok-check-7.ensures.same name ∙ ready.types name;
      constraints = same ∙ ready.constraints;
    })
    c.check-8.ensures.same

pub returns-clause-passed : goal.returns-clause-passed
returns-clause-passed c =
    let at = goal.at.returns-clause-passed c in
    let ends = elements_in-end c.elements_in-fields.result.now (pieces_of c.args.lines.now.elements.now) c.args.range.now (omega arith) (fields_are at.After-elements_in-fields) in
    on_ok_weaker c.check-8.result (λ _. omega (arith, ends, c.in_ok-check-7.ensures.passed)) c.check-8.ensures.same
