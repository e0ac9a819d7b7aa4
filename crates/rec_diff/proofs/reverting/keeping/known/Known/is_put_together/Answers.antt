use Rattle.std.proofs.Common.{◌∙◌, ap, sym}
use Rattle.rec_diff.specs.proving.Keeping.{spread_in}
use Rattle.rec_diff.proofs.lemmas.reverting.KeepingLemmas.{put_by_gone, put_by_none, put_by_one, put_by_several}
use Rattle.rec_diff.proofs.reverting.keeping.known.Known.is_put_together.Goals as goal

pub returns-in-Some : goal.returns-in-Some
returns-in-Some c = λ ahead back own beside no_other at.
    let r = c.args.self.readings.now in
    let (ts, are) = beside.ahead_turns in
    let (us, are_too) = beside.back_turns in
    put_by_one r.before r.here r.left beside.before beside.here beside.left ahead back ts us are are_too c.args.self.before.now c.args.self.here.now beside.of_before beside.of_here c.args.led.now
    c.requires.led c.args.record own at c.in-In.old c.in-Some.new c.is_put_of.result (ap (λ l. spread_in l c.args.record) (sym c.deref.ensures.value) ∙ (sym c.spread_at.ensures ∙ c.in-In.is))
    (sym c.made_of.ensures ∙ c.in-Some.is) (λ old new old_at new_at. c.is_put_of.ensures ahead back old new own beside old_at new_at at)

pub returns-in-None : goal.returns-in-None
returns-in-None c = λ ahead back own beside no_other at.
    let r = c.args.self.readings.now in
    let (ts, are) = beside.ahead_turns in
    let (us, are_too) = beside.back_turns in
    put_by_none r.before r.here r.left beside.before beside.here beside.left ahead back ts us are are_too c.args.self.before.now c.args.self.here.now beside.of_before beside.of_here c.args.led.now
    c.requires.led c.args.record own at c.in-In.old (ap (λ l. spread_in l c.args.record) (sym c.deref.ensures.value) ∙ (sym c.spread_at.ensures ∙ c.in-In.is)) (sym c.made_of.ensures ∙ c.in-None.is)

pub returns-in-Nowhere : goal.returns-in-Nowhere
returns-in-Nowhere c = λ ahead back own beside no_other at.
    let r = c.args.self.readings.now in
    let (ts, are) = beside.ahead_turns in
    let (us, are_too) = beside.back_turns in
    put_by_gone r.before r.here r.left beside.before beside.here beside.left ahead back ts us are are_too c.args.self.before.now c.args.self.here.now beside.of_before beside.of_here c.args.led.now
    c.requires.led c.args.record own at c.args.of_gone.now c.requires.of_gone no_other (ap (λ l. spread_in l c.args.record) (sym c.deref.ensures.value) ∙ (sym c.spread_at.ensures ∙ c.in-Nowhere.is))
    c.is_put_of_gone.result (c.is_put_of_gone.ensures ahead back own beside at)

pub returns-in-Several : goal.returns-in-Several
returns-in-Several c = λ ahead back own beside no_other at.
    let r = c.args.self.readings.now in
    let (ts, are) = beside.ahead_turns in
    let (us, are_too) = beside.back_turns in
    put_by_several r.before r.here r.left beside.before beside.here beside.left ahead back ts us are are_too c.args.self.before.now c.args.self.here.now beside.of_before beside.of_here c.args.led.now
    c.requires.led c.args.record own at (ap (λ l. spread_in l c.args.record) (sym c.deref.ensures.value) ∙ (sym c.spread_at.ensures ∙ c.in-Several.is))
