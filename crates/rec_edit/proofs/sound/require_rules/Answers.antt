use Rattle.std.proofs.Common.{◌∙◌, ◌==◌, Ok, ap, inr, refl, subst}
use Rattle.rec_text.specs.Elements.{AreElementsOf, text_of}
use Rattle.rec_check.specs.Stored.{described}
use Rattle.rec_check.specs.Violations.{AreViolations, AreViolationsOf}
use Rattle.rec_edit.proofs.lemmas.outcomes.OutcomeLemmas.{none_of-some, none_of-none}
use Rattle.rec_edit.proofs.sound.require_rules.Goals as goal
use Rattle.rec_edit.proofs.sound.require_rules.Goals.{In_ok-found}

-- what is found in the file
are : (c : In_ok-found) → AreViolationsOf (text_of c.args.file.now.pieces) (Ok c.in_ok-found.found.items)
are c = (
  c.args.file.now.pieces,
  described c.args.file.now.schema,
  subst (λ ps. AreElementsOf ps (text_of ps)) c.database.ensures.elements c.text-text.ensures.whole,
  c.database.ensures.together,
  subst (λ pieces. AreViolations pieces (described c.args.file.now.schema) c.in_ok-found.found.items) c.database-2.ensures.elements
      (subst (λ schema. AreViolations c.database-2.result.now (described schema) c.in_ok-found.found.items) c.schema.ensures.schema c.in_ok-found.ensures.violations),
)

pub returns-then-not-is_empty : goal.returns-then-not-is_empty
returns-then-not-is_empty c = rw c.broken.ensures (inr (
  c.in_ok-found.found.items,
  are (goal.at.returns-then-not-is_empty c).In_ok-found,
  none_of-some c.in_ok-found.found.items c.in_ok-found.found.items _ refl (c.is_empty.ensures ∙ ap (λ n. n == 0) c.in_ok-found.found.ok.0) c.if-not-is_empty.true,
))

pub returns : goal.returns
returns c = inr (
  c.in_ok-found.found.items,
  are (goal.at.returns c).In_ok-found,
  none_of-none c.in_ok-found.found.items _ (c.is_empty.ensures ∙ ap (λ n. n == 0) c.in_ok-found.found.ok.0) c.if-not-is_empty.false,
)
