use Rattle.std.proofs.Common.{◌∙◌, ap, sym}
use Rattle.std.specs.Str.{bytes_eq}
use Rattle.rec_text.specs.Bytes.{is_among}
use Rattle.rec_sex.proofs.lemmas.meaning.PlaceLemmas.{list_any-map}
use Rattle.rec_check.proofs.descriptors.type_names.TypeNames.contains.Goals as goal

pub returns : goal.returns
returns c =
    c.contains.ensures ∙ sym (list_any-map (bytes_eq c.args.name.now) (λ name. name.items) c.self.inside.names.keys)
    ∙ ap (λ names. is_among names c.args.name.now) c.self.view_is
