use Rattle.std.proofs.Common.{◌∙◌, ap, sym}
use Rattle.std.proofs.lemmas.Bool.{not-false}
use Rattle.rec_sex.specs.proving.Choices.{has_name}
use Rattle.rec_sex.proofs.lemmas.meaning.PlaceLemmas.{has-put}
use Rattle.rec_edit.specs.Task.{Pair}
use Rattle.rec_edit.proofs.lemmas.automatic.NumberLemmas.{pair_named}
use Rattle.rec_edit.proofs.automatic.names_of.Goals as goal

pub loop-pair-preserved : goal.loop-pair-preserved
loop-pair-preserved c = λ name.
    pair_named c.args.pairs.now c.loop-pair.pair-index c.pair-item.result c.as_slice.result.now name (has_name c.loop-pair.names name) (has_name c.insert.new.self name) c.loop-pair-test.true
    (c.as_slice.ensures ∙ ap (λ (pair : Pair). pair.name) c.pair-item.is) (c.loop-pair.invariant name)
    (has-put (λ one. one.now) c.loop-pair.names c.insert.new.self c.as_slice.result c.in_ok-insert.field-0 c.in_ok-insert.ensures.keys
    (λ old. not-false _ (sym c.in_ok-insert.ensures.added ∙ old)) name)
