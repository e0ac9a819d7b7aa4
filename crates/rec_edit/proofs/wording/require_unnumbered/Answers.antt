use Rattle.std.proofs.Common.{rules, tests, ◌≡◌, ◌∙◌, ◌==◌, position, sym}
use Rattle.std.proofs.lemmas.Iterator.{YieldsList-from_slice}
use Rattle.std.proofs.lemmas.Iterator.Search.{position_from_yields_List}
use Rattle.rec_edit.proofs.lemmas.outcomes.AnswerLemmas.{unnumbered-some, unnumbered-none}
use Rattle.rec_edit.proofs.wording.require_unnumbered.Goals as goal
use Rattle.rec_edit.proofs.wording.require_unnumbered.Goals.{After-position}

found : (c : After-position) → c.position.result ≡ position (λ b. b == 91) c.args.list.now
found c =
    position_from_yields_List (λ b. b == 91) _ _ _ c.position.ensures.ran (YieldsList-from_slice c.args.list.now cc) (λ x b q k. search (rules, tests))

pub returns-in-Some : goal.returns-in-Some
returns-in-Some c = λ items.
    rw (c.refused_text.ensures, c.in-Add.is)
    (unnumbered-some c.in-Add.field-0 c.args.list.now items c.in-Some.at (sym (found (goal.at.returns-in-Some c).After-position) ∙ c.in-Some.is))

pub returns-in-None : goal.returns-in-None
returns-in-None c = λ items. rw c.in-Add.is (unnumbered-none c.in-Add.field-0 c.args.list.now items (sym (found (goal.at.returns-in-None c).After-position) ∙ c.in-None.is))
