use Rattle.std.proofs.Common.{◌∙◌, ap, get_or, refl, sym}
use Rattle.std.specs.BTreeSet.{insert_key}
use Rattle.std.specs.Ordering.{nat_cmp}
use Rattle.rec_text.specs.Elements.{name_of}
use Rattle.rec_text.specs.Places.{piece_of}
use Rattle.rec_text.specs.Values.{value_of}
use Rattle.rec_check.specs.proving.Singulars.{has_seen, has_seen_at}
use Rattle.rec_check.proofs.lemmas.checks.NameLemmas.{no_element}
use Rattle.rec_check.proofs.lemmas.checks.NamePlaceLemmas.{no_option, no_places}
use Rattle.rec_check.proofs.lemmas.checks.SingularLemmas.{broken_met, broken_passed, not_repeated, repeated}
use Rattle.rec_check.proofs.checks.singular.Singular.broken.Goals as goal

pub loop-field-init : goal.loop-field-init
loop-field-init c = λ once. c.new-broken.ensures.empty ∙ no_places _ (λ name. refl) 0 c.args.self.now.names

pub loop-field-preserved-in_default : goal.loop-field-preserved-in_default
loop-field-preserved-in_default c = λ once.
    let own = c.args.self.now in
    let i = c.loop-field.field-index in
    let piece = piece_of (get_or c.args.fields.now i no_element) in
    let new = not_repeated (has_seen_at own) own.names (name_of piece) (value_of piece) c.in_ok-place.field-0 (no_option c.in_ok-place.field-0 c.in_default.not-Some) c.in_ok-place.ensures.place in
    c.loop-field.invariant once ∙ broken_passed (has_seen own) c.args.fields.now i no_element c.loop-field-test.true own.names new

pub loop-field-preserved : goal.loop-field-preserved
loop-field-preserved c = λ once.
    let own = c.args.self.now in
    let i = c.loop-field.field-index in
    let piece = piece_of (get_or c.args.fields.now i no_element) in
    let old = repeated (has_seen_at own) own.names (name_of piece) (value_of piece) c.in-Some.place (sym c.in-Some.is ∙ c.in_ok-place.ensures.place) in
    c.in_ok-insert.ensures.keys ∙ ap (λ places. insert_key nat_cmp places c.in-Some.place) (c.loop-field.invariant once)
    ∙ broken_met (has_seen own) c.args.fields.now i no_element c.loop-field-test.true own.names c.in-Some.place once old.0 old.1
