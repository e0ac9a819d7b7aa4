use Rattle.std.proofs.Common.{◌∙◌, sym}
use Rattle.rec_diff.proofs.lemmas.LiningLemmas.{turn_closed, turn_open}
use Rattle.rec_diff.proofs.lemmas.RestLemmas.{OnOk-map}
use Rattle.rec_diff.proofs.lining.Lining.turn.Goals as goal

pub returns-then-is_at_line : goal.returns-then-is_at_line
returns-then-is_at_line c =
    let r = c.requires in
    OnOk-map _ _ c.close.result
    (turn_closed _ _ c.args.self.now c.pass.new.self c.close.new.self c.args.old c.args.new r.lining r.old r.new c.pass.ensures (sym c.is_at_line.ensures ∙ c.if-is_at_line.true))
    c.close.ensures

pub returns : goal.returns
returns c =
    let r = c.requires in
    turn_open _ _ c.args.self.now c.pass.new.self c.args.old c.args.new r.lining r.old r.new c.pass.ensures (sym c.is_at_line.ensures ∙ c.if-is_at_line.false)
