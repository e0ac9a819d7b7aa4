use Rattle.std.proofs.Common.{◌∙◌, ◌∷◌, [], ◌++◌, cond, map, ap, sym}
use Rattle.std.proofs.lemmas.List.{map-append}
use Rattle.std.specs.Str.{bytes_eq}
use Rattle.rec_text.specs.Bytes.{is_among}
use Rattle.rec_sex.proofs.lemmas.meaning.PlaceLemmas.{list_any-map}
use Rattle.rec_check.proofs.descriptors.type_names.TypeNames.add.Goals as goal

pub returns : goal.returns
returns c =
    let names = c.self.inside.names.keys in
    let name = c.in_ok-from_slice.field-0 in
    let absent = sym (list_any-map (bytes_eq name.items) (λ name. name.items) names) ∙ ap (λ bytes. is_among (map (λ name. name.items) names) bytes) c.in_ok-from_slice.ensures.items
    ∙ ap (λ names. is_among names c.args.name.now) c.self.view_is ∙ c.requires in
    ap (map (λ name. name.items)) (c.in_ok-insert.ensures.keys ∙ ap (λ b. cond b names (names ++ name ∷ [])) absent)
    ∙ map-append (λ name. name.items) names (name ∷ [])
    ∙ ap (λ prefix. prefix ++ name.items ∷ []) c.self.view_is ∙ ap (λ bytes. c.args.self.now ++ bytes ∷ []) c.in_ok-from_slice.ensures.items
