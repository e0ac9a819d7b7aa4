use Rattle.std.proofs.Common.{ℕ, List, IfOk, subst}
use Rattle.rec_text.specs.Faults.{UnlessMemory}
use Rattle.rec_tools.specs.Asked.{writing}
use Rattle.rec_tools.specs.Outcomes.{Decides}
use Rattle.rec_tools.specs.proving.Courses.{HasCourse}
use Rattle.rec_tools.specs.Writing.{IsWritten}
use Rattle.rec_tools.proofs.decision.decide_write.Goals as goal

pub returns-clause-found : goal.returns-clause-found
returns-clause-found c =
    let P : List ℕ → Type 0 =
    λ file. UnlessMemory c.decide_write_on.result (Decides file c.args.journal.now (writing (IsWritten c.args.force c.args.over.now c.args.text.now))) in
    subst P c.in_ok-hashed.ensures c.decide_write_on.ensures.found

pub returns-clause-course : goal.returns-clause-course
returns-clause-course c =
    let P : List ℕ → Type 0 = λ file. IfOk c.decide_write_on.result (HasCourse file c.args.journal.now) in
    subst P c.in_ok-hashed.ensures c.decide_write_on.ensures.course
