-- Adoptions, as decisions.
use Rattle.std.specs.Prelude.{ℕ, List, Some, Result, Ok, Err}
use Rattle.rec_text.specs.declared.fault.Fault.{Fault}
use Rattle.rec_journal.specs.declared.ending.End.{End}
use Rattle.rec_journal.specs.History.{Opened}
use Rattle.rec_tools.specs.declared.decision.Decision.{Decision}
use Rattle.rec_tools.specs.Outcomes.{IsEndFor, Adopts, outcome_of}
use Rattle.rec_tools.specs.proving.Courses.{contents}

-- a decision adopts what became of this end
abbrev pub AdoptsTo : Opened → List ℕ → List ℕ → End → Result Decision Fault → Type 0
AdoptsTo o file journal found (Ok decision) = Adopts o (contents file journal) found (outcome_of decision)
AdoptsTo o file journal found (Err fault) = ⊥

-- a decision adopts what became of the end that is found from a text, or it is refused so
abbrev pub AdoptsFrom : Opened → List ℕ → List ℕ → List ℕ → Result Decision Fault → Type 0
AdoptsFrom o file journal old (Ok decision) =
    (found : End) × IsEndFor (Some old) o (contents file journal) (Ok found)
    × Adopts o (contents file journal) found (outcome_of decision)
AdoptsFrom o file journal old (Err fault) = IsEndFor (Some old) o (contents file journal) (Err fault)
