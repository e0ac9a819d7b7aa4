use Rattle.std.proofs.Common.{◌∙◌, ap, codes, false}
use Rattle.std.specs.Option.{option_map_or}
use Rattle.std.specs.Str.{bytes_eq}
use Rattle.clap.specs.Words.{found_of, one_text}
use Rattle.clap.proofs.WalkLemmas.{one_text-rows}
use Rattle.rec_command.proofs.WordsLemmas.{flag_read}
use Rattle.rec_command.proofs.args.found.is_given.Goals as goal

pub returns : goal.returns
returns c =
    let found = found_of c.args.options.now in
    let name = c.args.name.now in
    c.unwrap_or.ensures ∙ flag_read _ (one_text found name) c.get_one.result c.get_one.ensures.none c.get_one.ensures.value
    ∙ ap (λ text. option_map_or (λ t. bytes_eq t (codes "true")) text false) (one_text-rows found name)
