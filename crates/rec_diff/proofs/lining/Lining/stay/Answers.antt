use Rattle.std.proofs.Common.{refl}
use Rattle.rec_diff.proofs.lemmas.LiningLemmas.{stay_plain}
use Rattle.rec_diff.proofs.lemmas.RestLemmas.{stay_by_lines}
use Rattle.rec_diff.proofs.lining.Lining.stay.Goals as goal

pub returns-in_default : goal.returns-in_default
returns-in_default c =
    let r = c.requires in
    stay_plain _ _ c.args.self.now c.pass.new.self c.args.count _ r.lining r.old r.new r.same refl c.in_default.ensures c.pass.ensures

pub returns : goal.returns
returns c =
    let r = c.requires in
    stay_by_lines _ _ c.args.self.now c.stay_to_line.new.self c.stay_to_line-2.new.self c.pass-2.new.self c.args.count _ _ c.open_start-lines.result r.lining r.old r.new r.same
    c.in-Some.ensures c.open_start-lines.ensures c.in_ok-stay_to_line.ensures c.in_ok-stay_to_line-2.ensures c.pass-2.ensures
