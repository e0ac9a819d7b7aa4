use Rattle.std.proofs.Common.{◌∙◌, ap, position, refl, sym}
use Rattle.std.specs.Str.{bytes_eq}
use Rattle.rec_check.proofs.lemmas.checks.SeenLemmas.{seen_more, seen_other}
use Rattle.rec_check.proofs.lemmas.checks.NameLemmas.{no_element}
use Rattle.rec_check.proofs.lemmas.checks.NamePlaceLemmas.{no_option, no_places}
use Rattle.rec_check.proofs.checks.names_seen.NamesSeen.of.Goals as goal

pub loop-field-init : goal.loop-field-init
loop-field-init c = λ once. record { once = c.new.ensures.empty ∙ no_places _ (λ name. refl) 0 c.args.names.now; again = c.new-2.ensures.empty ∙ no_places _ (λ name. refl) 0 c.args.names.now }

pub loop-field-preserved-in_default : goal.loop-field-preserved-in_default
loop-field-preserved-in_default c = λ once.
    let names = c.args.names.now in
    seen_other c.args.fields.now c.loop-field.field-index no_element c.loop-field-test.true names c.loop-field.seen
    (ap (λ n. position (bytes_eq n) names) (sym c.name.ensures) ∙ sym c.place_of.ensures ∙ no_option c.place_of.result c.in_default.not-Some) (c.loop-field.invariant once)

pub loop-field-preserved : goal.loop-field-preserved
loop-field-preserved c = λ once.
    let names = c.args.names.now in
    seen_more c.args.fields.now c.loop-field.field-index no_element c.loop-field-test.true names c.loop-field.seen c.note.new.self c.in-Some.place once
    (ap (λ n. position (bytes_eq n) names) (sym c.name.ensures) ∙ sym c.place_of.ensures ∙ c.in-Some.is) (c.loop-field.invariant once)
    c.in_ok-note.ensures.once c.in_ok-note.ensures.again
