use Rattle.std.proofs.Common.{ℕ, List, IfOk, subst}
use Rattle.rec_text.specs.Faults.{UnlessMemory}
use Rattle.rec_tools.specs.Asked.{reverting}
use Rattle.rec_tools.specs.Outcomes.{Decides}
use Rattle.rec_tools.specs.proving.Courses.{HasCourse}
use Rattle.rec_check.specs.DescribedTexts.{IsDescribedText}
use Rattle.rec_tools.specs.Reverting.{IsReverted}
use Rattle.rec_tools.proofs.decision.decide_revert.Goals as goal

pub returns-clause-found : goal.returns-clause-found
returns-clause-found c =
    let P : List ℕ → Type 0 =
    λ file. UnlessMemory c.decide_revert_on.result (Decides file c.args.journal.now (reverting IsDescribedText c.args.number (IsReverted c.args.force))) in
    subst P c.in_ok-hashed.ensures c.decide_revert_on.ensures.found

pub returns-clause-course : goal.returns-clause-course
returns-clause-course c =
    let P : List ℕ → Type 0 = λ file. IfOk c.decide_revert_on.result (HasCourse file c.args.journal.now) in
    subst P c.in_ok-hashed.ensures c.decide_revert_on.ensures.course
