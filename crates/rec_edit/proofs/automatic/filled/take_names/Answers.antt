use Rattle.std.proofs.Common.{◌∙◌, ap, sym}
use Rattle.std.proofs.lemmas.Bool.{not-false}
use Rattle.rec_sex.specs.proving.Choices.{has_name}
use Rattle.rec_sex.proofs.lemmas.meaning.PlaceLemmas.{has-put}
use Rattle.rec_check.proofs.lemmas.checks.NameLemmas.{no_element}
use Rattle.rec_edit.proofs.lemmas.automatic.NumberLemmas.{field_named, no_field_named}
use Rattle.rec_edit.proofs.automatic.filled.take_names.Goals as goal
use Rattle.rec_edit.proofs.automatic.filled.take_names.Goals.{then-is_field+in_ok-insert, else-is_field}

pub loop-field-preserved : goal.loop-field-preserved
loop-field-preserved c = λ name.
    let fields = c.args.fields.now in
    let i = c.loop-field.field-index in
    let so_far = has_name c.loop-field.names name in
    elim c.if-is_field.branch [
      | then-is_field+in_ok-insert w ↦
          ap (λ names. has_name names name) w.names-is
          ∙ field_named fields i no_element name so_far c.loop-field-test.true (c.loop-field.invariant name) w.name.result.now (has_name w.insert.new.self name) (sym c.is_field.ensures
          ∙ w.if-is_field.true) w.name.ensures
          (has-put (λ one. one.now) c.loop-field.names w.insert.new.self w.name.result w.in_ok-insert.field-0 w.in_ok-insert.ensures.keys
          (λ old. not-false _ (sym w.in_ok-insert.ensures.added ∙ old)) name)
      | else-is_field w ↦
          ap (λ names. has_name names name) w.names-is ∙ no_field_named fields i no_element name so_far c.loop-field-test.true (c.loop-field.invariant name) (sym c.is_field.ensures
          ∙ w.if-is_field.false)
    ]
