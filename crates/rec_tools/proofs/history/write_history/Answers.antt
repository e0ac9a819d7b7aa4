use Rattle.std.proofs.Common.{◌∙◌, ap, sym, flat_map}
use Rattle.rec_select.proofs.lemmas.printing.PutsLemmas.{Prints-as}
use Rattle.rec_tools.specs.proving.Listed.{line_of}
use Rattle.rec_tools.proofs.lemmas.printing.ListedLemmas.{printed_history-open}
use Rattle.rec_tools.proofs.history.write_history.Goals as goal

pub returns-clause-printed : goal.returns-clause-printed
returns-clause-printed g c =
    Prints-as _ _ _ _ (ap (flat_map line_of) c.steps.ensures ∙ printed_history-open c.args.history.now (sym c.is_drifted.ensures ∙ c.if-is_drifted.false)) _ c.write_steps.ensures.printed
