-- How a decision's new file comes of the old one, and what is printed of it.
use Rattle.std.specs.Prelude.{◌≡◌, ℕ, List, [], Option, Some, None, Result, Ok, Err}
use Rattle.rec_text.specs.declared.fault.Fault.{Fault}
use Rattle.rec_journal.specs.declared.event.Revision.{Revision}
use Rattle.rec_journal.specs.Direction.{Along}
use Rattle.rec_journal.specs.Revisions.{LeadsBy}
use Rattle.rec_diff.specs.declared.style.DiffStyle.{DiffStyle}
use Rattle.rec_diff.specs.Diffs.{IsDiff}
use Rattle.rec_tools.specs.declared.decision.NewFile.{NewFile}
use Rattle.rec_tools.specs.declared.decision.Decision.{Decision}
use Rattle.rec_tools.specs.declared.decision.Decision.TheVariants.{Stay, Put, Adopt}
use Rattle.rec_tools.specs.Home.{Contents}
use Rattle.rec_tools.specs.Asked.{Printout, AskedChange, previewing}
use Rattle.rec_journal.specs.declared.patch.Direction.TheVariants.{Forward}
use Rattle.rec_tools.specs.Outcomes.{LeadsAcross, LeadsFrom, IsChangeOutcome, IsRequestOutcome, printing, reply_in}
use Rattle.rec_tools.specs.Attempts.{Answer}
use Rattle.rec_tools.specs.Requests.{as_diff}

abbrev pub contents : List ℕ → List ℕ → Contents
contents file journal = record { file = file; journal = journal }

-- a new file comes of an edit that is made or taken back, by its steps; and so does the file of an adoption
abbrev pub HasCourse : List ℕ → List ℕ → Decision → Type 0
HasCourse file journal (Stay reply) = Unit {0}
HasCourse file journal (Put put None reply) = Unit {0}
HasCourse file journal (Put put (Some new) reply) = (e : Revision)
    × LeadsAcross new.direction e (contents file journal) (contents new.text put) × (new.steps ≡ e.steps)
HasCourse file journal (Adopt put from steps reply) =
    (e : Revision) × LeadsFrom from e (contents file put) × (steps ≡ e.steps)

-- its steps lead from the file, or back to it
abbrev pub LeadsFromFile : List ℕ → Option NewFile → Type 0
LeadsFromFile file None = Unit {0}
LeadsFromFile file (Some new) = Along new.direction (LeadsBy new.steps) file new.text

-- what is printed of it
abbrev pub IsTextOf : DiffStyle → List ℕ → Option NewFile → Result (List ℕ) Fault → Type 0
IsTextOf style file None answer = answer ≡ Ok []
IsTextOf style file (Some new) answer = IsDiff new.direction style new.steps file new.text answer

-- what is printed of a decision on a file
abbrev pub IsDecisionText : DiffStyle → List ℕ → Decision → Result (List ℕ) Fault → Type 0
IsDecisionText style file (Stay reply) answer = IsTextOf style file None answer
IsDecisionText style file (Put put new reply) answer = IsTextOf style file new answer
IsDecisionText style file (Adopt put from steps reply) answer = IsDiff Forward style steps from file answer

-- the steps of a decision lead where it says
abbrev pub LeadsSo : List ℕ → Decision → Type 0
LeadsSo file (Stay reply) = Unit {0}
LeadsSo file (Put put new reply) = LeadsFromFile file new
LeadsSo file (Adopt put from steps reply) = LeadsBy steps from file

-- what is printed for a preview, with its reply, or why there is none
abbrev pub IsPreviewed : DiffStyle → List ℕ → List ℕ → AskedChange → Result Printout Fault → Type 0
IsPreviewed style file journal change (Ok p) =
    IsRequestOutcome (contents file journal) (previewing (as_diff style) change) (Ok (printing p.text p.reply))
IsPreviewed style file journal change (Err fault) = IsChangeOutcome (contents file journal) change (Err fault)

-- a decision's reply, or why it is refused
abbrev pub replied : Result Decision Fault → Answer
replied (Ok decision) = Ok (reply_in decision)
replied (Err fault) = Err fault
