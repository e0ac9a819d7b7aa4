use Rattle.std.proofs.Common.{◌≡◌, ◌∙◌, ◌↔◌, true, ap, subst}
use Rattle.rec_diff.specs.proving.Keeping.{IsWithin, spread_in}
use Rattle.rec_diff.proofs.lemmas.reverting.KeepingLemmas.{has_if, has_not_from, has_not_to}
use Rattle.rec_diff.proofs.reverting.keeping.sides.Side.has_what_is_left.Goals as goal

pub returns-then-not-is_within : goal.returns-then-not-is_within
returns-then-not-is_within c = λ parts turns old own are side at at_too.
    has_not_to c.args.text.now c.args.left.now c.requires.text c.requires.left parts turns are c.args.self.now side c.args.one c.args.record old own at at_too c.is_within.result
    (subst (λ s. (c.is_within.result ≡ true) ↔ IsWithin s c.args.record) (c.spread_at.ensures ∙ ap (λ l. spread_in l c.args.one) c.deref.ensures.value) c.is_within.ensures) c.if-not-is_within.true

pub returns-then-not-is_within-2 : goal.returns-then-not-is_within-2
returns-then-not-is_within-2 c = λ parts turns old own are side at at_too.
    has_not_from c.args.text.now c.args.left.now c.requires.text c.requires.left parts turns are c.args.self.now side c.args.one c.args.record old own at at_too c.is_within-2.result
    (subst (λ s. (c.is_within-2.result ≡ true) ↔ IsWithin s c.args.one) (c.spread_at-2.ensures ∙ ap (λ l. spread_in l c.args.record) c.deref-2.ensures.value) c.is_within-2.ensures)
    c.if-not-is_within-2.true

pub returns : goal.returns
returns c = λ parts turns old own are side at at_too.
    has_if c.args.text.now c.args.left.now c.requires.text c.requires.left parts turns are c.args.self.now side c.args.one c.args.record old own at at_too c.has_type_of.result
    (subst (λ s. IsWithin s c.args.record) (c.spread_at.ensures ∙ ap (λ l. spread_in l c.args.one) c.deref.ensures.value) (c.is_within.ensures.0 c.if-not-is_within.false))
    (subst (λ s. IsWithin s c.args.one) (c.spread_at-2.ensures ∙ ap (λ l. spread_in l c.args.record) c.deref-2.ensures.value) (c.is_within-2.ensures.0 c.if-not-is_within-2.false))
    c.has_type_of.ensures
