use Rattle.std.proofs.Common.{sym}
use Rattle.rec_text.specs.Places.{piece_of}
use Rattle.rec_edit.proofs.lemmas.blocks.SettingLemmas.{popped_settled}
use Rattle.rec_edit.proofs.changes.setting.write_settled.Goals as goal

pub returns-then-not-ends_newline : goal.returns-then-not-ends_newline
returns-then-not-ends_newline c =
    popped_settled c.args.more c.args.picked c.args.action.now (piece_of c.args.field.now) _ c.append_closed.new.out.items c.pop.new.self.items c.append_closed.new.out.len c.if-not-more.true
    (sym c.if-not-ends_newline.ensures) c.clear.ensures.items c.in_ok-append_closed.ensures c.append_closed.new.out.ok.0 c.pop.ensures.rest
