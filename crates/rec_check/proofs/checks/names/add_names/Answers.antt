use Rattle.std.proofs.Common.{sym, ◌∙◌}
use Rattle.std.proofs.lemmas.Bool.{not-false}
use Rattle.rec_sex.specs.proving.Choices.{has_name}
use Rattle.rec_sex.proofs.lemmas.meaning.PlaceLemmas.{has-put}
use Rattle.rec_check.proofs.lemmas.checks.NameLemmas.{has_more}
use Rattle.rec_check.proofs.checks.names.add_names.Goals as goal

pub loop-name-preserved : goal.loop-name-preserved
loop-name-preserved c = λ name.
    has_more c.args.more.now c.loop-name.name-index c.as_slice.result.now c.name-item.result name (has_name c.args.names.now name) (has_name c.loop-name.names name) (has_name c.insert.new.self name)
    c.loop-name-test.true c.name-item.is c.as_slice.ensures (c.loop-name.invariant name)
    (has-put (λ one. one.now) c.loop-name.names c.insert.new.self c.as_slice.result c.in_ok-insert.field-0 c.in_ok-insert.ensures.keys
    (λ old. not-false _ (sym c.in_ok-insert.ensures.added ∙ old)) name)
