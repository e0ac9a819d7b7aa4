-- Moves through the history as far as the edit of a number: which answers they come to, and what a dry run prints.
use Rattle.std.specs.Prelude.{◌≡◌, ◌≢◌, ℕ, ◌+◌, Bool, true, false, nat_lt, ◌&&◌, List, [], ◌∷◌, ◌++◌, length, map}
use Rattle.std.specs.Prelude.{replicate, reverse, filter_map, slice_get, Option, Some, None, Result, Ok, Err, IfOk}
use Rattle.std.specs.List.{AllByRecursion}
use Rattle.rec_text.specs.declared.fault.Fault.{Fault}
use Rattle.rec_journal.specs.declared.patch.Direction.{Direction}
use Rattle.rec_journal.specs.declared.patch.Direction.TheVariants.{Forward, Backward}
use Rattle.rec_diff.specs.declared.style.DiffStyle.{DiffStyle}
use Rattle.rec_tools.specs.declared.home.Which.TheVariants.{Base as TheFile, Journal as TheJournal}
use Rattle.rec_tools.specs.declared.request.Change.{Change}
use Rattle.rec_tools.specs.declared.request.Change.TheVariants.{Undo, Redo}
use Rattle.rec_tools.specs.declared.request.Request.{Request}
use Rattle.rec_tools.specs.declared.request.Request.TheVariants.{Change as Changes}
use Rattle.rec_tools.specs.declared.request.Reply.{Reply}
use Rattle.rec_tools.specs.declared.request.Reply.TheVariants.{Undone, Redone}
use Rattle.rec_tools.specs.declared.through.Through.{Through}
use Rattle.rec_tools.specs.Home.{Contents, written, Call, Went}
use Rattle.rec_tools.specs.Printouts.{Printed, IsBoth, IsSilence}
use Rattle.rec_tools.specs.Requests.{change_of, as_diff}
use Rattle.rec_tools.specs.Asked.{AskedChange, moving, previewing}
use Rattle.rec_tools.specs.Outcomes.{Outcome, IsChangeOutcome, reply_of}
use Rattle.rec_tools.specs.Attempts.{Answer, AreRead, Does, gots}
use Rattle.rec_tools.specs.Machine.{IsChangeStep, IsMachineStep}
use Rattle.rec_tools.specs.Stands.{Stands}
use Rattle.rec_tools.specs.States.{Entry, State, entries_on}

-- a move that way, where the edit of this number lies that way
abbrev pub move_through : Direction → ℕ → Change
move_through Backward number = Undo (Some number)
move_through Forward number = Redo (Some number)

-- one for each answer
abbrev pub moves_through : Direction → ℕ → List Answer → List Request
moves_through direction number answers = replicate (length answers) (Changes (move_through direction number))

-- the number of the edit that was taken back or made again, if one was
abbrev pub moved_by : Answer → Option ℕ
moved_by (Ok (Undone number tool)) = Some number
moved_by (Ok (Redone number tool)) = Some number
moved_by _ = None

-- that way the one number comes before the other
abbrev pub comes_before : Direction → ℕ → ℕ → Bool
comes_before Backward one other = nat_lt other one
comes_before Forward one other = nat_lt one other

-- an edit was moved that comes after the last one, where there is one, and before that of the number
abbrev pub leads_on : Direction → ℕ → Option ℕ → Option ℕ → Bool
leads_on direction number last None = false
leads_on direction number None (Some moved) = comes_before direction moved number
leads_on direction number (Some last) (Some moved) =
    comes_before direction last moved && comes_before direction moved number

-- After the move by the last edit, where there was one, each of these answers leads on, save the last.
abbrev pub LeadThrough : Direction → ℕ → Option ℕ → List Answer → Type 0
LeadThrough direction number last [] = ⊥
LeadThrough direction number last (answer ∷ []) = leads_on direction number last (moved_by answer) ≡ false
LeadThrough direction number last (answer ∷ (next ∷ answers)) =
    (leads_on direction number last (moved_by answer) ≡ true)
    × LeadThrough direction number (moved_by answer) (next ∷ answers)

-- the numbers of the edits that were moved
abbrev pub all_moved : List Answer → List ℕ
all_moved answers = filter_map moved_by answers

-- moves through the edit of a number are answered so, and this is told of them
pub record EndsThrough (direction : Direction) (number : ℕ) (answers : List Answer) (told : Through) : Type 0 where
  pub lead : LeadThrough direction number None answers
  pub first : told.first ≡ slice_get (all_moved answers) 0
  pub last : told.last ≡ slice_get (reverse (all_moved answers)) 0
  pub answer : Some told.answer ≡ slice_get (reverse answers) 0

-- ---- on the machine

-- the machine steps again and again by a change, with these answers
abbrev pub StepsAgain : State → AskedChange → List Answer → State → Type 0
StepsAgain s change [] t = t ≡ s
StepsAgain s change (answer ∷ answers) t =
    (mid : State) × IsChangeStep s change answer mid × StepsAgain mid change answers t

-- entries, each with the text that it leads back to, from this text on
abbrev pub entries_back : List ℕ → List Entry → List Entry
entries_back here [] = []
entries_back here (entry ∷ entries) = record entry { text = here } ∷ entries_back entry.text entries

-- the machine moved by these entries that way, the nearest first, and by this one after them, before these others
abbrev pub state_through : Direction → State → List Entry → Entry → List Entry → State
state_through Backward s nearer entry farther = record {
  past = farther;
  present = entry.text;
  future = reverse (entries_back s.present (nearer ++ entry ∷ [])) ++ s.future;
  next = s.next + length (nearer ++ entry ∷ []);
  made = s.made;
}
state_through Forward s nearer entry farther = record {
  past = reverse (entries_back s.present (nearer ++ entry ∷ [])) ++ s.past;
  present = entry.text;
  future = farther;
  next = s.next + length (nearer ++ entry ∷ []);
  made = s.made;
}

-- the entry of the number lies that way, and the machine moves by those before it, and by it
pub record IsThrough (direction : Direction) (number : ℕ) (s t : State) : Type 0 where
  pub nearer : List Entry
  pub entry : Entry
  pub farther : List Entry
  pub there : entries_on direction s ≡ nearer ++ entry ∷ farther
  pub numbered : entry.number ≡ number
  pub is : t ≡ state_through direction s nearer entry farther

-- the answers to those moves
abbrev pub answers_of : Direction → List Entry → List Answer
answers_of direction entries = map (λ entry. Ok (reply_of direction entry.number entry.tool)) entries

-- Moves through the edit of a number, from a state for which contents stand, are made by each entry as far as that one
-- and no further; where it doesn't lie that way, the first is refused.
pub record LeadThere (direction : Direction) (number : ℕ) (s t : State) (answers : List Answer) : Type 0 where
  pub moved : (u : State) (through : IsThrough direction number s u)
      → (answers ≡ answers_of direction (through.nearer ++ through.entry ∷ [])) × (t ≡ u)
  pub refused : AllByRecursion (λ entry. entry.number ≢ number) (entries_on direction s)
      → (t ≡ s) × ((fault : Fault) × (answers ≡ Err fault ∷ []))

abbrev pub MovesLeadThere : Type 0
MovesLeadThere = (c : Contents) (direction : Direction) (number : ℕ) (s t : State) (answers : List Answer) → Stands c s
    → StepsAgain s (moving direction (Some number)) answers t → LeadThrough direction number None answers
    → LeadThere direction number s t answers

-- ---- a dry run

-- a change of the one contents would be answered so, and leave the others
abbrev pub WouldLeave : Contents → AskedChange → Reply → Contents → Type 0
WouldLeave c change reply d = (would : Outcome) × IsChangeOutcome c change (Ok would) × (reply ≡ would.reply)
    × (d ≡ written c would.writes)

-- On contents in memory a change is previewed, with this answer; and again on those that it would leave, as far as the
-- last ones. What is printed is what each preview prints, one after another.
abbrev pub PreviewsAgain : DiffStyle → AskedChange → Contents → List Answer → Printed → Contents → Type 0
PreviewsAgain style change c [] p last = IsSilence p × (last ≡ c)
PreviewsAgain style change c (answer ∷ answers) p last = (d : Contents) × (first rest : Printed) × IsBoth p first rest
    × Does c (previewing (as_diff style) change) answer (gots c (TheFile ∷ TheJournal ∷ [])) first
    × IfOk answer (λ reply. WouldLeave c change reply d) × PreviewsAgain style change d answers rest last

-- so it is on both contents, as they were read; or they couldn't be read, and that is the answer
abbrev pub PreviewsRead : DiffStyle → AskedChange → Result (List ℕ × List ℕ) Fault → List Answer → Printed → Type 0
PreviewsRead style change (Ok (file, journal)) answers p =
    (last : Contents) × PreviewsAgain style change (record { file = file; journal = journal }) answers p last
PreviewsRead style change (Err fault) answers p = (answers ≡ Err fault ∷ []) × IsSilence p

-- by calls that read both contents, and no others, the one home became the other
abbrev pub PreviewsThrough : {H : Type 0} → (H → Call → H → Type 0) → H → H → DiffStyle → Direction → ℕ → List Answer
    → Printed → Type 0
PreviewsThrough goes old new style direction number answers p = (read : Result (List ℕ × List ℕ) Fault)
    × (calls : List Call) × Went goes old calls new × AreRead read calls
    × PreviewsRead style (change_of (move_through direction number)) read answers p

-- the machine would step again and again by a change, with these answers; what is printed is what it prints for the
-- preview of each step, one after another
abbrev pub PreviewSteps : DiffStyle → State → AskedChange → List Answer → List ℕ → State → Type 0
PreviewSteps style s change [] printed t = (printed ≡ []) × (t ≡ s)
PreviewSteps style s change (answer ∷ answers) printed t = (mid : State) × (first rest : List ℕ)
    × (printed ≡ first ++ rest) × IsMachineStep s (previewing (as_diff style) change) answer first s
    × IsChangeStep s change answer mid × PreviewSteps style mid change answers rest t
