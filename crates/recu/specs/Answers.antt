-- The answer to a command line: of which job it is, on which home, what becomes of what is printed,
-- and which disk is left.
use Rattle.std.specs.Prelude.{◌≡◌, ◌≢◌, ◌⊎◌, ◌↔◌, ℕ, Bool, true, false, List, [], Option, Some, None, Result, Ok, Err}
use Rattle.std.specs.Prelude.{IfSome, IsSomeAnd, MatchOption, MatchResult, codes, option_map, unwrap_or, string_bytes}
use Rattle.std.specs.Prelude.{if◌then◌else◌}
use Rattle.std.specs.declared.io.ErrorKind.TheVariants.{BrokenPipe}
use Rattle.std.specs.IoError.{error_kind}
use Rattle.std.specs.Io.Buffered.{writer_buffer, writer_contents}
use Rattle.std.specs.Io.KnownBytes.{Appends}
use Rattle.rec_text.specs.Bytes.{is_nil}
use Rattle.rec_text.specs.declared.fault.Fault.{Fault}
use Rattle.rec_text.specs.declared.fault.Fault.TheVariants.{OutOfMemory, StoreFailed}
use Rattle.rec_text.specs.Sink.{HasRisen}
use Rattle.rec_disk.specs.declared.disk.Disk.{Ghosts as Disk}
use Rattle.rec_disk.specs.Disk.{Story, Told}
use Rattle.rec_disk.specs.Lasting.{shown}
use Rattle.rec_disk.specs.Paths.{journal_of}
use Rattle.rec_journal.specs.declared.patch.Direction.{Direction}
use Rattle.rec_diff.specs.declared.style.DiffStyle.{DiffStyle}
use Rattle.rec_tools.specs.declared.request.Change.{Change}
use Rattle.rec_tools.specs.declared.request.Change.TheVariants.{Batch, Adopt, Write}
use Rattle.rec_tools.specs.declared.request.Request.{Request}
use Rattle.rec_tools.specs.declared.request.Request.TheVariants.{Look as Looks, Change as Changes}
use Rattle.rec_tools.specs.declared.request.Request.TheVariants.{Preview as Previews}
use Rattle.rec_tools.specs.declared.request.Reply.{Reply}
use Rattle.rec_tools.specs.declared.through.Through.{Through}
use Rattle.rec_tools.specs.Home.{Call}
use Rattle.rec_tools.specs.Printouts.{Printed, IsSilence}
use Rattle.rec_tools.specs.Requests.{change_of, asked_of, IsChange}
use Rattle.rec_tools.specs.Asked.{changing}
use Rattle.rec_tools.specs.Attempts.{Answer, Attempts, AttemptsAll}
use Rattle.rec_tools.specs.Through.{move_through, moves_through, EndsThrough, PreviewsThrough}
use Rattle.rec_files.specs.declared.access.Access.TheVariants.{Look}
use Rattle.rec_files.specs.declared.files.DiskHome.{DiskHome}
use Rattle.rec_files.specs.declared.output.StandardOutput.{StandardOutput}
use Rattle.rec_files.specs.OnDisk.{places_of, IsRequestAt, AreRequestsAt}
use Rattle.rec_files.specs.Paths.{AreDefaultPaths}
use Rattle.rec_files.specs.Succeeding.{IsShut}
use Rattle.rec_command.specs.declared.args.Order.{Order}
use Rattle.rec_command.specs.declared.args.Order.TheVariants.{Look as LookOrder, Change as ChangeOrder}
use Rattle.rec_command.specs.declared.args.Order.TheVariants.{Preview as PreviewOrder}
use Rattle.rec_command.specs.declared.args.ChangeOrder.{ChangeOrder as OrderedChange}
use Rattle.rec_command.specs.declared.args.ChangeOrder.TheVariants.{Whole, BatchAt, AdoptAt, WriteAt}
use Rattle.rec_command.specs.declared.args.ChangeOrder.TheVariants.{Through as ThroughOrder}
use Rattle.rec_command.specs.declared.args.CommandLine.{CommandLine}
use Rattle.rec_command.specs.declared.args.JournalPath.{JournalPath}
use Rattle.rec_command.specs.declared.args.JournalPath.TheVariants.{Default, Given}
use Rattle.rec_command.specs.declared.args.refusal.Refusal.{Refusal}
use Rattle.rec_command.specs.Status.{line_of, status_of}
use Rattle.rec_command.specs.Refusals.{AsksForHelp, IsParsed, refusal_fault}
use Rattle.recu.specs.declared.job.Job.{Job}
use Rattle.recu.specs.declared.job.Job.TheVariants.{Once, Through as MovesThrough, DryThrough}
use Rattle.recu.specs.declared.job.Work.{Work}
use Rattle.recu.specs.declared.job.Work.TheVariants.{Once as Makes, Through as Moves}

-- ---- the job and the home

-- a change gives the file an empty text, and not by force
abbrev pub IsEmptying : Change → Type 0
IsEmptying (Write text over force) = (text ≡ []) × (force ≡ false)
IsEmptying _ = ⊥

-- so does what is made, or printed
abbrev pub Empties : Job → Type 0
Empties (Once (Changes change)) = IsEmptying change
Empties (Once (Previews change style)) = IsEmptying change
Empties _ = ⊥

-- it does so, and is refused; or the file can't be read, or there is no memory for it
abbrev pub IsRefusedAsEmpty : Job → Fault → Type 0
IsRefusedAsEmpty job fault = Empties job × ((fault ≡ OutOfMemory) ⊎ (fault ≡ StoreFailed))

-- a change that is made, and one of which is printed what it would change
abbrev pub job_done : Work → Job
job_done (Makes change) = Once (Changes change)
job_done (Moves direction number) = MovesThrough direction number

abbrev pub job_tried : DiffStyle → Work → Job
job_tried style (Makes change) = Once (Previews change style)
job_tried style (Moves direction number) = DryThrough direction number style

module _ {D F S : Type 0} (disk : Disk D F S) (story : Option Story) where
  -- the text at a path, where the disk tells what stands there, or any of standard input for `-`
  abbrev pub IsTextAt : List ℕ → List ℕ → Type 0
  IsTextAt path text = path ≢ codes "-" → Told story (λ s. shown s.bytes (s.at (disk.leads path)) ≡ Some text)

  -- the same, if a path is given
  abbrev pub IsTextAtIf : Option (List ℕ) → Option (List ℕ) → Type 0
  IsTextAtIf (Some path) (Some text) = IsTextAt path text
  IsTextAtIf None None = Unit {0}
  IsTextAtIf path text = ⊥

  -- the change that is ordered, with its texts; or one of these can't be read, or there is no memory for it
  abbrev pub IsWorkOf : OrderedChange → Result Work Fault → Type 0
  IsWorkOf (Whole change) found = found ≡ Ok (Makes change)
  IsWorkOf (ThroughOrder direction number) found = found ≡ Ok (Moves direction number)
  IsWorkOf (BatchAt path force) (Ok work) = (text : List ℕ)
      × IsTextAt (string_bytes path) text × (work ≡ Makes (Batch text force))
  IsWorkOf (AdoptAt old) (Ok work) = (text : Option (List ℕ))
      × IsTextAtIf (option_map string_bytes old) text × (work ≡ Makes (Adopt text))
  IsWorkOf (WriteAt path over force) (Ok work) = (text : List ℕ) × (before : Option (List ℕ))
      × IsTextAt (string_bytes path) text
      × IsTextAtIf (option_map string_bytes over) before × (work ≡ Makes (Write text before force))
  IsWorkOf _ (Err fault) = (fault ≡ OutOfMemory) ⊎ (fault ≡ StoreFailed)

  -- it does so only with a file that is empty, where the disk tells what stands there
  abbrev pub EmptiesEmpty : Job → Option (List ℕ) → Type 0
  EmptiesEmpty job file = Empties job → IsTextAtIf file (Some [])

  -- what an order has done, or why it can't be told
  abbrev pub IsJobOf : Order → Result Job Fault → Type 0
  IsJobOf (LookOrder look) found = found ≡ Ok (Once (Looks look))
  IsJobOf (ChangeOrder order) (Ok job) = (work : Work) × IsWorkOf order (Ok work) × (job ≡ job_done work)
  IsJobOf (PreviewOrder order style) (Ok job) = (work : Work) × IsWorkOf order (Ok work) × (job ≡ job_tried style work)
  IsJobOf (ChangeOrder order) (Err fault) = IsWorkOf order (Err fault)
  IsJobOf (PreviewOrder order style) (Err fault) = IsWorkOf order (Err fault)

  -- The paths of the file and the journal of a home, by those that are given: these; but where the default journal of
  -- a file is meant, that of the file to which its path leads, and its journal, where the disk tells what stands there;
  -- or these can't be told, or another journal is in the way, or there is no memory for them. The empty path names no
  -- journal.
  abbrev pub ArePathsOf : Option (List ℕ) → JournalPath → Result (Option (List ℕ) × Option (List ℕ)) Fault → Type 0
  ArePathsOf (Some path) Default (Ok at) = (file : List ℕ) × (at ≡ (Some file, Some (journal_of file)))
      × Told story (AreDefaultPaths disk path file (journal_of file))
  ArePathsOf (Some path) Default (Err fault) = (fault ≡ OutOfMemory) ⊎ (fault ≡ StoreFailed)
  ArePathsOf file (Given path) found =
      found ≡ (if is_nil (string_bytes path) then Err StoreFailed else Ok (file, Some (string_bytes path)))
  ArePathsOf file journal found = found ≡ Ok (file, None)

  -- what a line asks for, with the paths of the file and the journal of the home; or there is none, or no such paths,
  -- or it is an empty text for a file
  abbrev pub IsFoundFor : CommandLine → Result (Job × Option (List ℕ) × Option (List ℕ)) Fault → Type 0
  IsFoundFor line (Ok found) = IsJobOf line.order (Ok found.0)
      × ArePathsOf (option_map string_bytes line.file) line.journal (Ok (found.1, found.2))
      × EmptiesEmpty found.0 found.1
  IsFoundFor line (Err fault) = IsJobOf line.order (Err fault)
      ⊎ ((job : Job) × IsJobOf line.order (Ok job)
      × (ArePathsOf (option_map string_bytes line.file) line.journal (Err fault) ⊎ IsRefusedAsEmpty job fault))

-- something is to be changed
abbrev pub DoesChange : Job → Type 0
DoesChange (Once request) = IsChange request
DoesChange (MovesThrough direction number) = Unit {0}
DoesChange (DryThrough direction number style) = ⊥

-- a home of the two files on a disk, which may write them only where something is to be changed
pub record IsHomeFor {R D F S : Type 0} (disk : D) (file journal : Option (List ℕ)) (job : Job)
    (home : DiskHome R D F S) : Type 0 where
  pub disk_is : home.disk ≡ disk
  pub file_is : option_map string_bytes home.file ≡ file
  pub journal_is : string_bytes home.journal ≡ unwrap_or journal []
  pub access_is : (home.access ≡ Look) ↔ (DoesChange job → ⊥)

-- the same home once its files are closed
pub record IsClosed {R D F S : Type 0} (home closed : DiskHome R D F S) : Type 0 where
  pub shut : IsShut closed.both
  pub disk : closed.disk ≡ home.disk
  pub file : closed.file ≡ home.file
  pub journal : closed.journal ≡ home.journal
  pub failed : closed.failed ≡ home.failed

-- this holds of a home before its files are closed
abbrev pub BeforeClosing : {R D F S : Type 0} → (DiskHome R D F S → Type 0) → DiskHome R D F S → Type 0
BeforeClosing {R} {D} {F} {S} P closed = (home : DiskHome R D F S) × P home × IsClosed home closed

-- ---- what is printed

-- standard output: the bytes that it took, where they are known, those of them that it still holds,
-- and how often it failed
pub record Out : Type 0 where
  pub taken : Option (List ℕ)
  pub held : List ℕ
  pub failed : ℕ

abbrev pub out_of : {W : Type 0} → (W → Option (List ℕ)) → StandardOutput W → Out
out_of contents output = record {
  taken = writer_contents contents output.writer;
  held = writer_buffer output.writer;
  failed = output.failed;
}

-- that of a writer which took these bytes, before anything is printed
abbrev pub new_out : Option (List ℕ) → Out
new_out taken = record { taken = taken; held = []; failed = 0 }

-- it failed last because nobody reads its pipe any more
abbrev pub HasLostReader : {W : Type 0} → StandardOutput W → Type 0
HasLostReader output = IsSomeAnd output.failure (λ error. error_kind error ≡ BrokenPipe)

-- an answer whose reply was not printed: 23, where it isn't refused as it is
abbrev pub unprinted : Answer → Answer
unprinted (Ok reply) = Err StoreFailed
unprinted (Err fault) = Err fault

-- An answer once what was printed is let out, by the count of failures before that: it stays where nothing is held any
-- more and nothing failed; else the reply was not printed.
abbrev pub IsLetOut : Answer → ℕ → Out → Answer → Type 0
IsLetOut told failed out answer = ((answer ≡ told) × (out.held ≡ []) × (out.failed ≡ failed))
    ⊎ ((answer ≡ unprinted told) × HasRisen failed out.failed)

-- ---- a job

-- An answer to moves as far as the edit of a number: that of the last one; but where it isn't refused and not by that
-- edit, another program came in between, and the answer is 23.
abbrev pub IsMovedTo : ℕ → Through → Answer → Type 0
IsMovedTo number told (Ok reply) = (told.answer ≡ Ok reply) × (told.last ≡ Some number)
IsMovedTo number told (Err fault) = (told.answer ≡ Err fault)
    ⊎ ((fault ≡ StoreFailed) × (told.last ≢ Some number) × ((reply : Reply) × (told.answer ≡ Ok reply)))

module _ {R D F S : Type 0} (disk : Disk D F S) (goes : DiskHome R D F S → Call → DiskHome R D F S → Type 0) where
  -- By calls by which the one home becomes the other, it is answered so.
  module _ (old new : DiskHome R D F S) where
    -- it is the answer of moves, each a change of its own
    pub record AnswersThrough (direction : Direction) (number : ℕ) (answer : Answer) : Type 0 where
      pub told : Through
      pub answers : List Answer
      pub ends : EndsThrough direction number answers told
      pub calls : List Call
      pub printed : Printed
      pub silent : IsSilence printed
      pub attempts : AttemptsAll goes old new (moves_through direction number answers) answers calls printed
      pub on_disk : IfSome (places_of disk old) (λ at. AreRequestsAt disk at
          (changing (change_of (move_through direction number))) answers (disk.story old.disk) (disk.story new.disk))
      pub moved : IsMovedTo number told answer

    -- the same with what standard output takes
    module _ (before after : Out) where
      -- it is the answer of the request itself, once what it printed is let out
      pub record AnswersOnce (request : Request) (answer : Answer) : Type 0 where
        pub told : Answer
        pub calls : List Call
        pub printed : Printed
        pub taken : Appends before.taken after.taken printed.text
        pub failed : printed.before ≡ before.failed
        pub attempts : Attempts goes old new (asked_of request) told calls printed
        pub on_disk : IfSome (places_of disk old)
            (λ at. IsRequestAt disk at (asked_of request) told (disk.story old.disk) (disk.story new.disk))
        pub let_out : IsLetOut told printed.after after answer

      -- it is that of a dry run of moves, once what it printed is let out; nothing is changed on the disk
      pub record AnswersDry (direction : Direction) (number : ℕ) (style : DiffStyle) (answer : Answer) : Type 0 where
        pub told : Through
        pub answers : List Answer
        pub ends : EndsThrough direction number answers told
        pub printed : Printed
        pub taken : Appends before.taken after.taken printed.text
        pub failed : printed.before ≡ before.failed
        pub previews : PreviewsThrough goes old new style direction number answers printed
        pub still : IfSome (places_of disk old) (λ at. disk.story new.disk ≡ disk.story old.disk)
        pub reached : Answer
        pub moved : IsMovedTo number told reached
        pub let_out : IsLetOut reached printed.after after answer

      abbrev pub Answers : Job → Answer → Type 0
      Answers (Once request) answer = AnswersOnce request answer
      Answers (MovesThrough direction number) answer = (after ≡ before) × AnswersThrough direction number answer
      Answers (DryThrough direction number style) answer = AnswersDry direction number style answer

  -- On a home, which is closed then, a job is answered so, and is printed by a writer that took these bytes before, by
  -- standard output, which is so then; or there was no memory for it, and nothing was done.
  abbrev pub AnswersOn : DiskHome R D F S → DiskHome R D F S → Option (List ℕ) → Option Out → Job → Answer → Type 0
  AnswersOn old closed taken out job answer = BeforeClosing (λ home. MatchOption out
      ((answer ≡ Err OutOfMemory) × (home ≡ old))
      (λ after. Answers old home (new_out taken) after job answer)) closed

  -- ---- the command line

  -- A job is answered so on a home of the files at two paths, on a disk that tells what the first does and works
  -- where that does, and the home's disk is the last one.
  pub record IsCarriedOut (first last : D) (taken : Option (List ℕ)) (out : Option Out)
      (file journal : Option (List ℕ)) (job : Job) (answer : Answer) : Type 0 where
    pub own : D
    pub same : disk.story own ≡ disk.story first
    pub works_still : disk.works first → disk.works own
    pub home : DiskHome R D F S
    pub home_is : IsHomeFor own file journal job home
    pub closed : DiskHome R D F S
    pub answered : AnswersOn home closed taken out job answer
    pub last_is : last ≡ closed.disk

  -- A line is answered so, from the first disk to the last, by a writer that took these bytes before, with standard
  -- output so then: its job is, on its files; or what it asks for isn't found, and nothing is changed or printed.
  abbrev pub IsDone : D → D → Option (List ℕ) → Option Out → CommandLine → Answer → Type 0
  IsDone first last taken out line answer = (found : Result (Job × Option (List ℕ) × Option (List ℕ)) Fault)
      × IsFoundFor disk (disk.story first) line found
      × MatchResult found (λ task. IsCarriedOut first last taken out task.1 task.2 task.0 answer)
      (λ fault. (answer ≡ Err fault) × (disk.story last ≡ disk.story first) × (out ≡ None))

-- The answer to words that are refused: that they are; but to those that ask for help there is no reply, unless it
-- can't be printed.
abbrev pub IsAnswerToRefused : Refusal → Result (Option Reply) Fault → Type 0
IsAnswerToRefused refusal (Ok None) = AsksForHelp refusal
IsAnswerToRefused refusal (Ok (Some reply)) = ⊥
IsAnswerToRefused refusal (Err fault) = ((AsksForHelp refusal → ⊥) × (fault ≡ refusal_fault refusal))
    ⊎ (AsksForHelp refusal × ((fault ≡ OutOfMemory) ⊎ (fault ≡ StoreFailed)))

-- an answer with a reply, or a refusal
abbrev pub IsReplied : (Answer → Type 0) → Result (Option Reply) Fault → Type 0
IsReplied Done (Ok None) = ⊥
IsReplied Done (Ok (Some reply)) = Done (Ok reply)
IsReplied Done (Err fault) = Done (Err fault)

-- the answer to words: that to the line that they ask for, or that they are refused and nothing is done
abbrev pub IsAnswerTo : (CommandLine → Answer → Type 0) → Type 0 → List (List ℕ) → Result (Option Reply) Fault → Type 0
IsAnswerTo Done Nothing words answer = (read : Result CommandLine Refusal) × IsParsed words read
    × MatchResult read (λ line. IsReplied (Done line) answer) (λ refusal. IsAnswerToRefused refusal answer × Nothing)

-- The exit status of a command that was answered so, and what it says at the end: nothing where nobody reads what it
-- prints any more, with the status that shells show for SIGPIPE.
abbrev pub IsFinished : Bool → Result (Option Reply) Fault → ℕ → (List ℕ → Type 0) → Type 0 → Type 0
IsFinished true answer status Says silent = (status ≡ 141) × silent
IsFinished false answer status Says silent = (status ≡ status_of answer) × Says (line_of answer)
