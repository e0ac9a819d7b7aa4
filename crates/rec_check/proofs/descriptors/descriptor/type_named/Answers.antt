use Rattle.std.proofs.Common.{◌∙◌, List, Option, Some, ℕ, sym, ap, option_map}
use Rattle.rec_text.specs.declared.element.Element.{Element}
use Rattle.rec_text.specs.Places.{piece_of}
use Rattle.rec_text.specs.Values.{value_of}
use Rattle.rec_check.specs.Descriptors.{first_word}
use Rattle.rec_check.specs.Words.{words}
use Rattle.rec_check.proofs.lemmas.descriptors.DescriptorLemmas.{type_of-found}
use Rattle.rec_check.proofs.descriptors.descriptor.type_named.Goals as goal

abbrev named : Option Element → Option (List ℕ)
named found = option_map (λ (e : Element). first_word (words (value_of (piece_of e)))) found

pub returns-in-None-clause-found : goal.returns-in-None-clause-found
returns-in-None-clause-found c =
    ap (λ r. named (option_map (λ f. f.now) r)) (sym c.in-None.is) ∙ ap named c.rec_field.ensures ∙ sym (type_of-found c.args.fields.now)

pub returns-in_ok-type_by-in-Some-clause-found : goal.returns-in_ok-type_by-in-Some-clause-found
returns-in_ok-type_by-in-Some-clause-found c =
    ap Some c.in_ok-type_by-in-Some.ensures.found
    ∙ ap (λ r. named (option_map (λ f. f.now) r)) (sym c.in-Some.is) ∙ ap named c.rec_field.ensures ∙ sym (type_of-found c.args.fields.now)
