use Rattle.std.proofs.Common.{◌≡◌, ◌∙◌, ap, sym}
use Rattle.rec_diff.specs.declared.reverting.spread.Spread.TheVariants.{In}
use Rattle.rec_diff.specs.proving.Keeping.{spread_in}
use Rattle.rec_diff.proofs.lemmas.reverting.KeepingLemmas.{whole_in, whole_no}
use Rattle.rec_diff.proofs.reverting.keeping.sides.Side.is_whole.Goals as goal

pub returns-in-In : goal.returns-in-In
returns-in-In c = λ parts turns own are side at.
    let from : spread_in c.args.self.now.from_text.items c.args.record ≡ In c.in-In.one =
    ap (λ l. spread_in l c.args.record) (sym c.deref.ensures.value) ∙ (sym c.spread_at.ensures ∙ c.in-In.is) in
    whole_in c.args.text.now c.args.left.now c.requires.text c.requires.left parts turns are c.args.self.now side c.args.record own at c.in-In.one c.is_whole_of.result from
    (λ old old_at. c.is_whole_of.ensures parts turns old own are side old_at at)

pub returns-in_default : goal.returns-in_default
returns-in_default c = λ parts turns own are side at.
    whole_no c.args.text.now c.args.left.now c.requires.text c.requires.left parts turns are c.args.self.now side c.args.record own at
    (λ i e. c.in_default.not-In i (c.spread_at.ensures ∙ (ap (λ l. spread_in l c.args.record) c.deref.ensures.value ∙ e)))
