-- Starts of the program one after another on one disk, and the machine, which goes through their command lines too.
use Rattle.std.specs.Prelude.{◌≡◌, ◌⊎◌, ℕ, List, [], ◌∷◌, ◌++◌, Option, Some, None, Result, Ok, Err, IfOk}
use Rattle.std.specs.Prelude.{option_map, unwrap_or}
use Rattle.rec_text.specs.declared.fault.Fault.{Fault}
use Rattle.rec_journal.specs.declared.patch.Direction.{Direction}
use Rattle.rec_journal.specs.History.{IsRegular}
use Rattle.rec_diff.specs.declared.style.DiffStyle.{DiffStyle}
use Rattle.rec_disk.specs.declared.disk.Disk.{Ghosts as Disk}
use Rattle.rec_disk.specs.Disk.{Story}
use Rattle.rec_tools.specs.declared.home.Which.TheVariants.{Base as TheFile}
use Rattle.rec_tools.specs.declared.request.Reply.{Reply}
use Rattle.rec_tools.specs.Home.{Contents, Call}
use Rattle.rec_tools.specs.Requests.{asked_of}
use Rattle.rec_tools.specs.Asked.{moving, reads_of}
use Rattle.rec_tools.specs.Attempts.{Answer}
use Rattle.rec_tools.specs.States.{State}
use Rattle.rec_tools.specs.Stands.{Stands}
use Rattle.rec_tools.specs.Answers.{IsAnswer}
use Rattle.rec_tools.specs.Guarantee.{RunsAsMachine}
use Rattle.rec_tools.specs.Through.{moves_through, answers_of, IsThrough, PreviewSteps}
use Rattle.rec_files.specs.declared.files.DiskHome.{DiskHome}
use Rattle.rec_files.specs.OnDisk.{Places, places_by, contents_on}
use Rattle.rec_command.specs.declared.args.CommandLine.{CommandLine}
use Rattle.rec_command.specs.Refusals.{IsParsed}
use Rattle.recu.specs.declared.job.Job.{Job}
use Rattle.recu.specs.declared.job.Job.TheVariants.{Once, Through as MovesThrough, DryThrough}
use Rattle.recu.specs.Answers.{Out, new_out, IsFoundFor, Answers, AnswersOn, IsDone, IsAnswerTo}

-- a start: the words of its command line and the answer to them, the bytes that the writer of its standard output took
-- before, and its standard output then
pub record Start : Type 0 where
  pub words : List (List ℕ)
  pub answer : Result (Option Reply) Fault
  pub taken : Option (List ℕ)
  pub out : Option Out

-- what a disk holds at the two places stands for a state of the machine, by a regular journal
pub record StandsAt (p : Places) (story : Option Story) (c : Contents) (s : State) : Type 0 where
  pub told : contents_on (Some p) story ≡ Some c
  pub stands : Stands c s
  pub regular : IsRegular c.journal

-- a job reads the file alone
abbrev pub ReadsFile : Job → Type 0
ReadsFile (Once request) = reads_of (asked_of request) ≡ TheFile ∷ []
ReadsFile _ = ⊥

-- where the edit of the number lies that way, the machine prints this for the previews of the moves as far as that one
abbrev pub IsDryRun : DiffStyle → Direction → ℕ → State → List ℕ → Type 0
IsDryRun style direction number s printed = (t : State) (through : IsThrough direction number s t)
    → PreviewSteps style s (moving direction (Some number))
    (answers_of direction (through.nearer ++ through.entry ∷ [])) printed t

module _ {R D F S : Type 0} (disk : Disk D F S) (goes : DiskHome R D F S → Call → DiskHome R D F S → Type 0) where
  -- a job has its file and its journal at the two places, or its file, if it reads that alone
  abbrev pub IsAt : Places → Job × Option (List ℕ) × Option (List ℕ) → Type 0
  IsAt p task = (places_by disk.leads task.1 (unwrap_or task.2 []) ≡ Some p)
      ⊎ (ReadsFile task.0 × (option_map disk.leads task.1 ≡ Some p.file))

  -- so has whatever the words ask for on a disk with this story
  abbrev pub AskAt : Places → Option Story → List (List ℕ) → Type 0
  AskAt p story words = (line : CommandLine) (task : Job × Option (List ℕ) × Option (List ℕ)) → IsParsed words (Ok line)
      → IsFoundFor disk story line (Ok task) → IsAt p task

  -- ---- the machine, by what is said of an answer

  -- To a job: the machine answers the request so too, by these calls, and prints what was printed; or it goes through
  -- the moves, or leaves its state and prints what was printed of a dry run of them.
  abbrev pub JobRuns : (old new : DiskHome R D F S) (before after : Out) (job : Job) (answer : Answer)
      → Answers disk goes old new before after job answer → Contents → State → State → Type 0
  JobRuns old new before after (Once request) answer done c s t =
      IsAnswer s (asked_of request) done.told done.calls done.printed t
  JobRuns old new before after (MovesThrough direction number) answer done c s t = RunsAsMachine asked_of c s
      (moves_through direction number done.1.answers) done.1.answers done.1.calls done.1.printed t
  JobRuns old new before after (DryThrough direction number style) answer done c s t = (t ≡ s)
      × IfOk done.told.answer (λ reply. IsDryRun style direction number s done.printed.text)

  -- the same, if there was memory for it; else nothing was done
  abbrev pub TaskRuns : (old closed : DiskHome R D F S) (taken : Option (List ℕ)) (out : Option Out) (job : Job)
      (answer : Answer) → AnswersOn disk goes old closed taken out job answer → Contents → State → State → Type 0
  TaskRuns old closed taken None job answer done c s t = t ≡ s
  TaskRuns old closed taken (Some after) job answer (home, done, closing) c s t =
      JobRuns old home (new_out taken) after job answer done c s t

  -- to a line: so is its job, if it was found; else nothing was done
  abbrev pub LineRuns : (first last : D) (taken : Option (List ℕ)) (out : Option Out) (line : CommandLine)
      (answer : Answer) → IsDone disk goes first last taken out line answer → Contents → State → State → Type 0
  LineRuns first last taken out line answer (Ok task, found, done) c s t =
      TaskRuns done.home done.closed taken out task.0 answer done.answered c s t
  LineRuns first last taken out line answer (Err fault, found, done) c s t = t ≡ s

  -- ---- starts

  -- a start left a disk as another, as `status` says, and asked for something at the places, or for nothing
  abbrev pub IsStart : Places → D → Start → D → Type 0
  IsStart p first start last = AskAt p (disk.story first) start.words
      × IsAnswerTo (IsDone disk goes first last start.taken start.out) (last ≡ first) start.words start.answer

  -- and the machine went so from contents and a state to a state
  abbrev pub IsRun : D → Start → D → Contents → State → State → Type 0
  IsRun first start last c s t = IsAnswerTo (λ line told.
      (done : IsDone disk goes first last start.taken start.out line told)
      × LineRuns first last start.taken start.out line told done c s t)
      ((last ≡ first) × (t ≡ s)) start.words start.answer

  -- starts one after another, each on a disk that tells what the one before left
  abbrev pub AreStarts : Places → D → List Start → D → Type 0
  AreStarts p first [] last = disk.story last ≡ disk.story first
  AreStarts p first (start ∷ starts) last = (found left : D) × (disk.story found ≡ disk.story first)
      × IsStart p found start left × AreStarts p left starts last

  -- the machine goes through them: what is at the places stands for its state before each start and after the last one
  abbrev pub AreRuns : Places → D → List Start → D → State → State → Type 0
  AreRuns p first [] last s t = (disk.story last ≡ disk.story first) × (t ≡ s)
      × ((c : Contents) × StandsAt p (disk.story last) c t)
  AreRuns p first (start ∷ starts) last s t = (found left : D) × (disk.story found ≡ disk.story first)
      × (mid : State) × ((c : Contents) × StandsAt p (disk.story found) c s × IsRun found start left c s mid)
      × AreRuns p left starts last mid t

-- From a disk on which what is at two places stands for a state, the machine goes through any starts there.
abbrev pub StartsAreRuns : {R D F S : Type 0} → Disk D F S
    → (DiskHome R D F S → Call → DiskHome R D F S → Type 0) → Type 0
StartsAreRuns {R} {D} disk goes = (p : Places) (first last : D) (starts : List Start) (c : Contents) (s : State)
    → StandsAt p (disk.story first) c s → AreStarts disk goes p first starts last
    → (t : State) × AreRuns disk goes p first starts last s t
