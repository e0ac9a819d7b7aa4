use Rattle.std.proofs.Common.{◌≡◌, ◌++◌, ◌∙◌, ℕ, Bool, List, ap, arith, map}
use Rattle.std.specs.Prelude.{is_some}
use Rattle.std.proofs.lemmas.Result.{on_ok_weaker}
use mathlib.Core.Path.{fun_ext}
use Rattle.rec_text.specs.Places.{pieces_of}
use Rattle.rec_text.specs.Records.{elements_in}
use Rattle.rec_check.specs.Meanings.{meaning_in}
use Rattle.rec_check.specs.proving.Resolved.{resolved_by}
use Rattle.rec_check.specs.Stored.{definition_stored, rules_stored}
use Rattle.rec_check.specs.Types.{unchecked}
use Rattle.rec_check.specs.Violations.{resolves, unresolved_violations}
use Rattle.rec_check.proofs.lemmas.checks.ReportLemmas.{elements_in-end}
use Rattle.rec_check.proofs.checks.unresolved.check_kinds.Goals as goal

pub returns-clause-added : goal.returns-clause-added
returns-clause-added c =
    let pieces = pieces_of c.args.lines.now.elements.now in
    let definitions = (rules_stored c.args.rules.now).definitions in
    let same : (kind : List ℕ) → resolved_by c.in_ok-resolver.resolver kind ≡ resolves definitions kind =
    λ kind. ap is_some (c.in_ok-resolver.ensures kind unchecked ∙ ap (λ ds. meaning_in (map definition_stored ds) kind unchecked) c.deref.ensures.value) in
    let all : resolved_by c.in_ok-resolver.resolver ≡ resolves definitions = fun_ext same in
    let fields = pieces_of c.elements_in-fields.result.now in
    let fields_are : fields ≡ elements_in pieces c.args.range.now = c.elements_in-fields.ensures.pieces ∙ ap (λ l. elements_in (pieces_of l) c.args.range.now) c.elements.ensures in
    let found = c.args.found.now.items in
    on_ok_weaker c.check_fields.result
    (λ added. added ∙ ap (λ (r : List ℕ → Bool). found ++ unresolved_violations pieces r c.args.range.now.start fields) all
    ∙ ap (λ fs. found ++ unresolved_violations pieces (resolves definitions) c.args.range.now.start fs) fields_are)
    c.check_fields.ensures.added

pub returns-clause-passed : goal.returns-clause-passed
returns-clause-passed c =
    let fields_are : pieces_of c.elements_in-fields.result.now ≡ elements_in (pieces_of c.args.lines.now.elements.now) c.args.range.now =
    c.elements_in-fields.ensures.pieces ∙ ap (λ l. elements_in (pieces_of l) c.args.range.now) c.elements.ensures in
    let ends = elements_in-end c.elements_in-fields.result.now (pieces_of c.args.lines.now.elements.now) c.args.range.now (omega arith) fields_are in
    on_ok_weaker c.check_fields.result (λ passed. omega (arith, ends, passed)) c.check_fields.ensures.passed
