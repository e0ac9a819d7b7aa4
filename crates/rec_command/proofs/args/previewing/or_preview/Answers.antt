use Rattle.rec_command.proofs.args.previewing.or_preview.Goals as goal

pub returns-in-Change : goal.returns-in-Change
returns-in-Change c = λ tool orders. c.change_or_preview.ensures tool (rw c.in-Change.is at orders)
