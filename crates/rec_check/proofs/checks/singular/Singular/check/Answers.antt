use Rattle.std.proofs.Common.{◌∙◌, ◌++◌, ap, filter_map, sym}
use Rattle.std.proofs.lemmas.Result.{on_ok_weaker}
use Rattle.std.specs.List.{slice_get}
use Rattle.rec_text.specs.declared.violations.Rule.TheVariants.{Singular}
use Rattle.rec_text.specs.Places.{pieces_of}
use Rattle.rec_text.specs.Bytes.{texts, is_among}
use Rattle.rec_check.specs.proving.Singulars.{has_seen}
use Rattle.rec_check.specs.Violations.{violations_of}
use Rattle.rec_check.specs.Words.{distinct}
use Rattle.rec_check.proofs.lemmas.checks.NameLemmas.{distinct-distinct}
use Rattle.rec_check.proofs.lemmas.checks.SingularLemmas.{broken_names, stands_more}
use Rattle.rec_check.proofs.checks.singular.Singular.check.Goals as goal

pub returns-clause-added : goal.returns-clause-added
returns-clause-added c = λ names earlier after.
    let own = c.args.self.now in
    let once = ap distinct after.names_are ∙ distinct-distinct names ∙ sym after.names_are in
    let found = ap texts c.deref.ensures.value ∙ c.in_ok-names.ensures.names ∙ ap (filter_map (slice_get own.names)) (c.in_ok-broken.ensures.places once)
    ∙ broken_names own.names names (has_seen own) earlier (pieces_of c.args.fields.now) after.names_are after.seen in
    on_ok_weaker c.take.result (λ _. c.in_ok-add_violations.ensures.added ∙ ap (λ l. c.args.found.now.items ++ violations_of c.args.line Singular l) found) c.take.ensures.seen

pub returns-clause-after : goal.returns-clause-after
returns-clause-after c = λ names earlier after.
    let own = c.args.self.now in
    on_ok_weaker c.take.result
    (λ seen. record {
      names_are = c.take.ensures.names ∙ after.names_are;
      seen = λ name value among.
          let listed = ap (λ l. is_among l name) (sym c.take.ensures.names) ∙ among in
          stands_more name value earlier (pieces_of c.args.fields.now) (has_seen own name value) (has_seen c.take.new.self name value) (after.seen name value listed) (seen name value listed);
    })
    c.take.ensures.seen
