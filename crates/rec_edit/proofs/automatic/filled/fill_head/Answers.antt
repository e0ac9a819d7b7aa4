use Rattle.std.proofs.Common.{◌∙◌, sym}
use Rattle.rec_edit.proofs.lemmas.automatic.FillLemmas.{head_given, no_head_given}
use Rattle.rec_edit.proofs.automatic.filled.fill_head.Goals as goal

pub returns-in_ok-push : goal.returns-in_ok-push
returns-in_ok-push c =
    head_given c.args.set.now.head c.args.filled.now.items c.push.new.self.items (record { given = c.new.result }) (sym c.is_some.ensures ∙ c.if-is_some.true)
    c.in_ok-push.ensures.items c.new.ensures.items

pub returns-else-is_some : goal.returns-else-is_some
returns-else-is_some c = no_head_given c.args.set.now.head c.args.filled.now.items (sym c.is_some.ensures ∙ c.if-is_some.false)
