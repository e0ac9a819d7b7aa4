use Rattle.std.proofs.Common.{◌∙◌, ap, map, refl}
use Rattle.std.proofs.lemmas.Result.{IfOk-weaker}
use Rattle.clap.specs.Words.{found_of}
use Rattle.clap.proofs.WalkLemmas.{raw_values-rows}
use Rattle.rec_command.proofs.WordsLemmas.{texts_read}
use Rattle.rec_command.proofs.args.found.texts.Goals as goal

pub returns : goal.returns
returns c =
    let read = ap (λ all. map (λ text. text.now) all.now) c.unwrap_or.ensures
    ∙ texts_read c.get_strs.result _ _ refl (c.get_strs.ensures ∙ raw_values-rows (found_of c.args.options.now) c.args.name.now) in
    IfOk-weaker c.copies.result _ _ (λ copies are. are ∙ read) c.copies.ensures
