use Rattle.std.proofs.Common.{◌++◌, ◌+◌, ◌∙◌, get_or, option_map, ap, arith}
use Rattle.std.specs.Prelude.{option_to_list}
use Rattle.rec_text.specs.declared.violations.Rule.TheVariants.{Typedef}
use Rattle.rec_text.specs.Places.{piece_of, pieces_of}
use Rattle.rec_check.specs.proving.Resolved.{resolved_by}
use Rattle.rec_check.specs.Violations.{line_at, unresolved_of, violation}
use Rattle.rec_check.proofs.lemmas.checks.NameLemmas.{no_element}
use Rattle.rec_check.proofs.lemmas.checks.UnresolvedLemmas.{unresolved_more}
use Rattle.rec_check.proofs.checks.unresolved.check_fields.Goals as goal

pub loop-i-preserved : goal.loop-i-preserved
loop-i-preserved c =
    let resolved = resolved_by c.args.resolver.now in
    let field = piece_of (get_or c.args.fields.now c.loop-i.i no_element) in
    let own = option_map (violation (line_at (pieces_of c.args.lines.now.elements.now) (c.args.start + c.loop-i.i)) Typedef) (unresolved_of resolved field) in
    record {
      found = unresolved_more (pieces_of c.args.lines.now.elements.now) resolved c.args.start c.args.fields.now c.loop-i.i no_element c.args.found.now.items c.loop-i.found.items
          c.check_field.new.found.items c.loop-i-test.true c.loop-i.invariant.found
          (c.in_ok-check_field.ensures.added ∙ ap (λ l. c.loop-i.found.items ++ option_to_list
          (option_map (violation (line_at (pieces_of l) (c.args.start + c.loop-i.i)) Typedef) (unresolved_of resolved field))) c.loop-i.invariant.elements);
      passed = omega (arith, c.in_ok-check_field.ensures.passed);
      elements = c.in_ok-check_field.ensures.elements ∙ c.loop-i.invariant.elements;
    }
