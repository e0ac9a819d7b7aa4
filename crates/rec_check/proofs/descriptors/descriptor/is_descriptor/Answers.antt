use Rattle.std.proofs.Common.{◌∙◌, rules, tests}
use Rattle.std.proofs.lemmas.Iterator.{YieldsList-from_slice}
use Rattle.std.proofs.lemmas.Iterator.Search.{any_from_yields_List}
use Rattle.rec_text.specs.Places.{piece_of}
use Rattle.rec_text.specs.Elements.{has_name}
use Rattle.rec_check.specs.Descriptors.{rec_name}
use Rattle.rec_check.proofs.lemmas.descriptors.DescriptorLemmas.{is_some-type_of-pieces}
use Rattle.rec_check.proofs.descriptors.descriptor.is_descriptor.Goals as goal

pub returns : goal.returns
returns c =
    any_from_yields_List (λ element. has_name rec_name (piece_of element)) _ _ _ c.any.ensures.ran (YieldsList-from_slice c.args.fields.now cc) (λ x b q k. search (rules, tests))
    ∙ is_some-type_of-pieces c.args.fields.now
