-- How a file and a journal stand for a state of the machine.
use Rattle.std.specs.Prelude.{◌≡◌, ℕ, false, List, [], ◌∷◌}
use Rattle.rec_journal.specs.declared.patch.Direction.{Direction}
use Rattle.rec_journal.specs.declared.patch.Direction.TheVariants.{Forward, Backward}
use Rattle.rec_journal.specs.declared.event.Revision.{Revision}
use Rattle.rec_journal.specs.History.{Opened, Opens}
use Rattle.rec_journal.specs.Revisions.{Leads}
use Rattle.rec_tools.specs.Home.{Contents}
use Rattle.rec_tools.specs.States.{Entry, State}

-- Each edit that way leads from the text of the entry before it, the first from the present text, to its own entry's
-- text.
abbrev pub AreEntries : Direction → List Revision → List Entry → List ℕ → Type 0
AreEntries direction [] [] here = Unit {0}
AreEntries direction [] (entry ∷ entries) here = ⊥
AreEntries direction (e ∷ es) [] here = ⊥
AreEntries direction (e ∷ es) (entry ∷ entries) here = (e.number ≡ entry.number) × (e.tool ≡ entry.tool)
    × (e.steps ≡ entry.steps) × Leads direction e here entry.text × AreEntries direction es entries entry.text

-- a file and a journal stand for a state
pub record Stands (c : Contents) (s : State) : Type 0 where
  pub opened : Opened
  pub opens : Opens c.file c.journal opened
  pub settled : opened.drifted ≡ false
  pub present : s.present ≡ c.file
  pub past : AreEntries Backward opened.past s.past c.file
  pub future : AreEntries Forward opened.future s.future c.file
  pub next : s.next ≡ opened.next
  pub made : s.made ≡ opened.made
