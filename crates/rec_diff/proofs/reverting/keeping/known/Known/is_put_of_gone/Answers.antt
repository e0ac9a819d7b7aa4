use Rattle.std.proofs.Common.{◌≡◌, ◌∙◌, ap, sym}
use Rattle.rec_diff.specs.declared.reverting.spread.Spread.TheVariants.{In}
use Rattle.rec_diff.specs.proving.Keeping.{spread_in}
use Rattle.rec_diff.proofs.lemmas.reverting.KeepingLemmas.{put_of_gone}
use Rattle.rec_diff.proofs.reverting.keeping.known.Known.is_put_of_gone.Goals as goal

pub returns-then-is_marked : goal.returns-then-is_marked
returns-then-is_marked c = λ ahead back own beside at.
    let r = c.args.self.readings.now in
    let (us, are_too) = beside.back_turns in
    let from : spread_in c.args.self.here.now.from_text.items c.args.record ≡ In c.in-In.new =
    ap (λ l. spread_in l c.args.record) (sym c.deref.ensures.value) ∙ (sym c.spread_at.ensures ∙ c.in-In.is) in
    put_of_gone r.here r.left back c.args.self.here.now beside.of_here c.args.of_gone.now c.args.record own at c.in-In.new c.has_what_is_left.result from (c.is_marked.ensures.0 c.if-is_marked.true)
    (λ new new_at. c.has_what_is_left.ensures back us new own are_too beside.of_here new_at at)
