use Rattle.std.proofs.Common.{map, sym, ◌∙◌}
use Rattle.rec_text.specs.declared.fault.Fault.TheVariants.{BadUsage}
use Rattle.rec_command.proofs.RefusalLemmas.{err-is, refused-fault}
use Rattle.rec_command.proofs.args.request_of.Goals as goal

pub returns-in-Err-clause-refused : goal.returns-in-Err-clause-refused
returns-in-Err-clause-refused g c = λ is.
    refused-fault (map g.S.AsStr.text c.args.words.now) c.in-Err.refusal c.in-Err.ensures.parsed
    (sym c.fault.ensures ∙ err-is c.fault.result BadUsage is)
