use Rattle.std.proofs.Common.{◌∙◌, ap, sym, subst}
use Rattle.rec_sex.specs.Patterns.{IsBuiltFrom}
use Rattle.rec_text.specs.Bytes.{is_among}
use Rattle.rec_check.proofs.lemmas.descriptors.BuiltLemmas.{ArePatterns-more, ArePatterns-unchanged, found_pattern, texts_of-found, texts_of-more}
use Rattle.rec_check.proofs.descriptors.patterns.Patterns.pattern_of.Goals as goal

pub returns-in-Some-clause-pattern : goal.returns-in-Some-clause-pattern
returns-in-Some-clause-pattern c = found_pattern c.self.inside.built c.args.text.now c.in-Some.pattern.now c.in_ok-clone.field-0 c.self.invariant
    (sym c.in-Some.ensures.value) c.in_ok-clone.ensures.cases

pub returns-in-Some-clause-kept : goal.returns-in-Some-clause-kept
returns-in-Some-clause-kept c = ap (λ texts. is_among texts c.args.text.now) (sym c.self.view_is)
    ∙ texts_of-found c.self.inside.built c.args.text.now c.in-Some.pattern.now (sym c.in-Some.ensures.value)

pub invariant_of-self-in_err-insert : goal.invariant_of-self-in_err-insert
invariant_of-self-in_err-insert c = ArePatterns-unchanged c.self.inside.built c.insert.new.self c.in_err-insert.ensures.err c.self.invariant

pub invariant_of-self-2 : goal.invariant_of-self-2
invariant_of-self-2 c =
    ArePatterns-more c.self.inside.built c.args.text.now c.in_ok-key.key c.in_ok-clone-2.field-0 c.in_ok-pattern.pattern c.insert.new.self c.in_ok-key.ensures.ok c.in_ok-insert.ensures.updates
    c.self.invariant c.in_ok-clone-2.ensures.cases (subst (IsBuiltFrom c.args.text.now) (sym c.in_ok-pattern.ensures.ok) c.in_ok-built.ensures)

pub returns-clause-kept : goal.returns-clause-kept
returns-clause-kept c =
    texts_of-more c.self.inside.built c.args.text.now c.in_ok-key.key c.in_ok-clone-2.field-0 c.in_ok-pattern.pattern c.insert.new.self c.in_ok-key.ensures.ok c.in_ok-insert.ensures.updates
