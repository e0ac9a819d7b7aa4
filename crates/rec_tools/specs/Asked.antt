-- What is asked for, whatever it means: a look at the file, at its history or at what an edit made; a change, which is
-- an edit, a move through the history, a revert, that old edits are forgotten, that a change by another program becomes
-- an edit, or that the file gets a whole text; or what a change would make of the file. Each kind has one case in what
-- follows. What is printed of a text, and what is made of it, are relations that are given.
use Rattle.std.specs.Prelude.{ℕ, Bool, List, [], ◌∷◌, Option, Result}
use Rattle.rec_text.specs.declared.fault.Fault.{Fault}
use Rattle.rec_journal.specs.declared.patch.Direction.{Direction}
use Rattle.rec_journal.specs.declared.event.EditStep.{EditStep}
use Rattle.rec_journal.specs.declared.event.Tool.{Tool}
use Rattle.rec_edit.specs.declared.answer.Edited.{Edited}
use Rattle.rec_tools.specs.declared.home.Which.{Which}
use Rattle.rec_tools.specs.declared.home.Which.TheVariants.{Base as TheFile, Journal as TheJournal}
use Rattle.rec_tools.specs.declared.request.Reply.{Reply}

-- what is printed, and the reply
pub record Printout : Type 0 where
  pub text : List ℕ
  pub reply : Reply

-- an edit that stands: its tool and steps, the texts before and after it, and the steps of all that were made later
pub record Standing : Type 0 where
  pub tool : Tool
  pub steps : List EditStep
  pub before : List ℕ
  pub after : List ℕ
  pub later : List EditStep

-- a text can be read, or why it can't
abbrev pub Reading : Type 0 → Type 1
Reading X = List ℕ → Result X Fault → Type 0

-- what is made of a text, told with a tool; or why nothing is
abbrev pub Making : Type 1
Making = List ℕ → Result (Tool × Edited) Fault → Type 0

-- what is made of a text without an edit that stands; or why nothing is
abbrev pub Reversal : Type 1
Reversal = List ℕ → Standing → Result (Tool × Edited) Fault → Type 0

-- what is printed of an edit's steps that lead from one text to another, or that lead back when they are taken back
abbrev pub Telling : Type 1
Telling = Direction → List EditStep → List ℕ → List ℕ → List ℕ → Type 0

-- what a change asks for
pub data AskedChange : Type 1 where
  -- of the file's text, which has to be readable, this is made
  editing : {X : Type 0} → Reading X → Making → AskedChange
  -- the nearest edit that way is taken back or made again; where a number is named, only if one that way has it
  moving : Direction → Option ℕ → AskedChange
  -- the edit of a number is taken back alone, so, in a text that has to be readable
  reverting : {X : Type 0} → Reading X → ℕ → Reversal → AskedChange
  -- all but the newest n of the edits that can be taken back are forgotten; and, or not, those that can be neither
  -- taken back nor made again any more
  forgetting : ℕ → Bool → AskedChange
  -- what another program changed becomes an edit, on the end of the history, which is found from this text or from the
  -- file's own
  adopting : Option (List ℕ) → AskedChange
  -- the file gets a whole text: this is made of its text
  writing : Making → AskedChange

-- what a request asks for
pub data Asked : Type 1 where
  -- this is printed of the file
  looking : (List ℕ → Result Printout Fault → Type 0) → Asked
  -- the history is printed
  listing : Asked
  -- what an edit made is printed so, that of this number or the newest that can be taken back
  showing : Option ℕ → Telling → Asked
  -- the history is printed, and after each edit what it made, so
  listing_changes : Telling → Asked
  -- this is changed, and nothing is printed
  changing : AskedChange → Asked
  -- it isn't changed; what it would make of the file is printed so
  previewing : Telling → AskedChange → Asked

-- the contents that are read for it, in this order
abbrev pub reads_of : Asked → List Which
reads_of (looking IsText) = TheFile ∷ []
reads_of _ = TheFile ∷ TheJournal ∷ []
