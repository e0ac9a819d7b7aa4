use Rattle.std.proofs.Common.{◌∙◌, ap, position, sym}
use Rattle.std.specs.Str.{bytes_eq}
use Rattle.rec_check.proofs.lemmas.TypeLemmas.{position-map}
use Rattle.rec_check.proofs.checks.names.Names.place_of.Goals as goal

pub returns : goal.returns
returns c =
    c.get_index_of.ensures.index ∙ sym (position-map (bytes_eq c.args.name.now) (λ name. name.now) c.self.inside.names.keys)
    ∙ ap (position (bytes_eq c.args.name.now)) c.self.view_is
