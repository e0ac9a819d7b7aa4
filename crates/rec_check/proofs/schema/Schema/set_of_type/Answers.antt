use Rattle.std.proofs.Common.{◌∙◌, ◌+◌, ap, sym}
use Rattle.std.specs.Option.{option_map}
use Rattle.rec_check.proofs.lemmas.TypeLemmas.{position-HaveTypes}
use Rattle.rec_check.proofs.schema.Schema.set_of_type.Goals as goal

pub returns-in_err-place_of : goal.returns-in_err-place_of
returns-in_err-place_of c =
    let schema = c.args.self.now in
    rw c.from_residual.ensures
    (sym (position-HaveTypes schema.sets.items schema.types schema.typed c.args.record_type.now ∙ ap (option_map (λ place. place + 1)) (sym c.place_of.ensures ∙ c.in_err-place_of.was)))

pub returns : goal.returns
returns c =
    let schema = c.args.self.now in
    sym (position-HaveTypes schema.sets.items schema.types schema.typed c.args.record_type.now ∙ ap (option_map (λ place. place + 1)) (sym c.place_of.ensures ∙ c.in_ok-place_of.was))
