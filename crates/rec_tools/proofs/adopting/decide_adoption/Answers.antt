use Rattle.std.proofs.Common.{ℕ, List, IfOk, subst}
use Rattle.rec_text.specs.Faults.{UnlessMemory}
use Rattle.rec_tools.specs.Asked.{adopting}
use Rattle.rec_tools.specs.Outcomes.{Decides}
use Rattle.rec_tools.specs.proving.Courses.{HasCourse}
use Rattle.rec_tools.proofs.adopting.decide_adoption.Goals as goal

pub returns-clause-found : goal.returns-clause-found
returns-clause-found c =
    let P : List ℕ → Type 0 = λ file. UnlessMemory c.adopt_on.result (Decides file c.args.journal.now (adopting c.args.old.now)) in
    subst P c.in_ok-hashed.ensures c.adopt_on.ensures.found

pub returns-clause-course : goal.returns-clause-course
returns-clause-course c =
    let P : List ℕ → Type 0 = λ file. IfOk c.adopt_on.result (HasCourse file c.args.journal.now) in
    subst P c.in_ok-hashed.ensures c.adopt_on.ensures.course
