use Rattle.std.proofs.Common.{◌∙◌, sym, ap, map, subst, Some}
use Rattle.clap.specs.Words.{App, HasKind, fault_of, found_of, is_simple, is_simple_and_free, rows_of, subcommand_of}
use Rattle.rec_command.proofs.UsageLemmas.{pair-parts}
use Rattle.rec_command.proofs.RefusalLemmas.{parsed-line, parsed-no_subcommand, parsed-no_tool, parsed-usage}
use Rattle.rec_command.proofs.args.parse.Goals as goal

pub returns-in_err-matches : goal.returns-in_err-matches
returns-in_err-matches g c =
    let words = map g.S.AsStr.text c.args.words.now in
    let app_is = c.in_ok-command.ensures in
    record {
      parsed = parsed-usage words c.in_err-matches.field-0.0 c.from_residual-in_err-matches.result c.from_residual-in_err-matches.ensures.1
          (subst (λ (a : App). HasKind (fault_of a words) c.in_err-matches.field-0.0) app_is (c.in_err-matches.ensures.kinds (ap is_simple_and_free app_is)));
    }

pub returns-in_default : goal.returns-in_default
returns-in_default g c =
    let words = map g.S.AsStr.text c.args.words.now in
    let app_is = c.in_ok-command.ensures in
    let given = (c.in_ok-matches.ensures.matches (ap is_simple app_is)).1 in
    let taken = c.in_ok-matches.ensures.kinds (ap is_simple_and_free app_is) in
    record {
      parsed = (
        ap (λ (a : App). fault_of a words) (sym app_is) ∙ taken,
        parsed-no_subcommand words _ c.in_default.ensures.rows (given ∙ ap (λ (a : App). subcommand_of a words) app_is),
      );
    }

pub returns-in-Some-named : goal.returns-in-Some-named
returns-in-Some-named g c =
    let words = map g.S.AsStr.text c.args.words.now in
    let rows = rows_of (found_of c.in-Some.options.now) in
    let app_is = c.in_ok-command.ensures in
    let given = (c.in_ok-matches.ensures.matches (ap is_simple app_is)).1 in
    let taken = c.in_ok-matches.ensures.kinds (ap is_simple_and_free app_is) in
    record {
      parsed = parsed-line words c.in-Some-named.tool rows (ap (λ (a : App). fault_of a words) (sym app_is) ∙ taken)
          (ap (λ (a : App). subcommand_of a words) (sym app_is) ∙ sym given
          ∙ pair-parts _ _ _ _ _ c.in-Some.ensures.name c.in-Some.ensures.rows
          ∙ ap (λ name. Some (name, rows)) (sym c.in-Some-named.ensures))
          c.asked_by.result c.asked_by.ensures;
    }

pub returns : goal.returns
returns g c =
    let words = map g.S.AsStr.text c.args.words.now in
    let app_is = c.in_ok-command.ensures in
    let given = (c.in_ok-matches.ensures.matches (ap is_simple app_is)).1 in
    let taken = c.in_ok-matches.ensures.kinds (ap is_simple_and_free app_is) in
    record {
      parsed = (
        ap (λ (a : App). fault_of a words) (sym app_is) ∙ taken,
        parsed-no_tool words _ (rows_of (found_of c.in-Some.options.now))
            (ap (λ (a : App). subcommand_of a words) (sym app_is) ∙ sym given
            ∙ pair-parts _ _ _ _ _ c.in-Some.ensures.name c.in-Some.ensures.rows)
            c.in-None.ensures,
      );
    }
