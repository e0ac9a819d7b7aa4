-- Starts one after another are runs of the machine.
use Rattle.std.proofs.Common.{◌≡◌, ◌⊎◌, inl, inr, ℕ, List, [], ◌∷◌, ◌++◌, length, append-nil, Option, Some, None, Result, Ok, Err, IfSome, IfOk, ap, sym, subst, refl, ◌∙◌, arith}
use Rattle.std.specs.Prelude.{option_map, unwrap_or, string_bytes}
use Rattle.rec_text.specs.declared.fault.Fault.{Fault}
use Rattle.rec_journal.specs.declared.patch.Direction.{Direction}
use Rattle.rec_diff.specs.declared.style.DiffStyle.{DiffStyle}
use Rattle.rec_disk.specs.declared.disk.Disk.{Ghosts as Disk}
use Rattle.rec_disk.specs.Disk.{Story, State as DiskState}
use Rattle.rec_disk.specs.Lasting.{shown}
use Rattle.rec_tools.specs.declared.home.Which.TheVariants.{Base as TheFile}
use Rattle.rec_tools.specs.declared.request.Reply.{Reply}
use Rattle.rec_tools.specs.declared.request.Request.{Request}
use Rattle.rec_tools.specs.Home.{Contents, Call, left_by, left_by_all, TellsOf, TellAll, Went}
use Rattle.rec_tools.specs.Printouts.{Printed, WentOut}
use Rattle.rec_tools.specs.Requests.{asked_of}
use Rattle.rec_tools.specs.Asked.{Asked, looking, listing, showing, listing_changes, changing, previewing, moving, reads_of}
use Rattle.rec_tools.specs.Outcomes.{Outcome}
use Rattle.rec_tools.specs.Attempts.{Answer, gots, puts, StopsReading, StopsWriting, IsAnswered, Does, Attempts, AttemptsAll}
use Rattle.rec_tools.specs.States.{State}
use Rattle.rec_tools.specs.Stands.{Stands}
use Rattle.rec_tools.specs.Answers.{IsAnswer}
use Rattle.rec_tools.specs.Guarantee.{RunsAsMachine}
use Rattle.rec_tools.specs.declared.through.Through.{Through}
use Rattle.rec_tools.specs.Through.{moves_through, answers_of, EndsThrough, IsThrough, PreviewsThrough, PreviewSteps}
use Rattle.rec_tools.proofs.lemmas.calls.CallLemmas.{left_by_all-append}
use Rattle.rec_tools.proofs.lemmas.runs.RunLemmas.{IsNoChange, writes_nothing, does-looks}
use Rattle.rec_tools.proofs.lemmas.runs.StopLemmas.{does-regular}
use Rattle.rec_tools.proofs.lemmas.runs.RunAllLemmas.{AttemptsAll-went}
use Rattle.rec_tools.proofs.lemmas.runs.DryLemmas.{RanDry, dry-previewed}
use Rattle.rec_tools.proofs.lemmas.runs.GuaranteeLemmas.{all_stops, does-steps, attempts_all-fails}
use Rattle.rec_files.specs.declared.files.DiskHome.{DiskHome}
use Rattle.rec_files.specs.OnDisk.{Places, places_by, places_of, contents_on, contents_of, contents_at, with_file, or_empty, writes_of, IsCallAt}
use Rattle.rec_files.specs.Succeeding.{HomeGoes}
use Rattle.rec_files.proofs.lemmas.Holding.{read_there}
use Rattle.rec_files.proofs.lemmas.Steps.{if_ok_so}
use Rattle.rec_command.specs.declared.args.CommandLine.{CommandLine}
use Rattle.rec_command.specs.Refusals.{IsParsed}
use Rattle.recu.specs.declared.job.Job.{Job}
use Rattle.recu.specs.declared.job.Job.TheVariants.{Once, Through as MovesThrough, DryThrough}
use Rattle.recu.specs.Answers.{Out, new_out, IsFoundFor, Answers, AnswersOn, IsDone, IsReplied, IsAnswerTo}
use Rattle.recu.specs.Starts.{Start, StandsAt, ReadsFile, IsDryRun, IsAt, AskAt, JobRuns, TaskRuns, LineRuns, IsStart, IsRun, StartsAreRuns}

-- ---- a request that reads the file alone

-- of what is asked for only looks read so
reads_one : (asked : Asked) → reads_of asked ≡ TheFile ∷ [] → IsNoChange asked
reads_one (looking IsText) is = tt
reads_one listing is = tt
reads_one (showing number Tells) is = tt
reads_one (listing_changes Tells) is = tt
reads_one (changing change) is = absurd (omega (arith, ap length is))
reads_one (previewing Tells change) is = tt

none-put : (o : Outcome) (answer : Answer) (calls : List Call) → o.writes ≡ [] → IsAnswered o answer calls → calls ≡ []
none-put o answer calls none (inl put) = put.1 ∙ ap puts none
none-put o answer calls none (inr stopped) = absurd (subst (λ writes. StopsWriting writes calls) none stopped.1)

-- the calls are reads of the file
abbrev AreOfFile : Contents → List Call → Type 0
AreOfFile c calls = (calls ≡ gots c (TheFile ∷ [])) ⊎ ((fault : Fault) × StopsReading (TheFile ∷ []) calls fault)

module _ (c : Contents) (asked : Asked) (answer : Answer) (p : Printed) (reads : reads_of asked ≡ TheFile ∷ []) where
  gots_one : (calls : List Call) → calls ≡ gots c (reads_of asked) → AreOfFile c calls
  gots_one calls is = inl (is ∙ ap (gots c) reads)

  does_one : (calls : List Call) → Does c asked answer calls p → AreOfFile c calls
  does_one calls (inl done) = inr (done.fault, subst (λ whiches. StopsReading whiches calls done.fault) reads done.stops)
  does_one calls (inr (inl done)) = gots_one calls done.read
  does_one calls (inr (inr (inl done))) = gots_one calls done.read
  does_one calls (inr (inr (inr (inl done)))) = gots_one calls done.read
  does_one calls (inr (inr (inr (inr done)))) =
      let none = none-put done.o answer done.following (writes_nothing c asked done.o (reads_one asked reads) done.outcome) done.answered in
      gots_one calls (done.calls_are ∙ ap (λ following. gots c (reads_of asked) ++ following) none ∙ append-nil (gots c (reads_of asked)))

-- none of them writes
abbrev AreReads : List Call → Type 0
AreReads [] = Unit {0}
AreReads (call ∷ calls) = (writes_of call ≡ []) × AreReads calls

stopped_reads : (calls : List Call) (fault : Fault) → StopsReading (TheFile ∷ []) calls fault → AreReads calls
stopped_reads [] fault stops = absurd stops
stopped_reads (call ∷ calls) fault (inl (is, none, given)) = rw (is, none) (refl, tt)
stopped_reads (call ∷ calls) fault (inr (inl (is, none, given))) = rw (is, none) (refl, tt)
stopped_reads (call ∷ []) fault (inr (inr (bytes, is, stops))) = absurd stops
stopped_reads (call ∷ (next ∷ calls)) fault (inr (inr (bytes, is, stops))) = absurd stops

one_reads : (c : Contents) (calls : List Call) → AreOfFile c calls → AreReads calls
one_reads c calls (inl is) = subst AreReads (sym is) (refl, tt)
one_reads c calls (inr (fault, stops)) = stopped_reads calls fault stops

stopped_tells : (c : Contents) (calls : List Call) (fault : Fault) → StopsReading (TheFile ∷ []) calls fault → TellAll c calls
stopped_tells c [] fault stops = absurd stops
stopped_tells c (call ∷ calls) fault (inl (is, none, given)) = rw (is, none) (tt, tt)
stopped_tells c (call ∷ calls) fault (inr (inl (is, none, given))) = rw (is, none) (tt, tt)
stopped_tells c (call ∷ []) fault (inr (inr (bytes, is, stops))) = absurd stops
stopped_tells c (call ∷ (next ∷ calls)) fault (inr (inr (bytes, is, stops))) = absurd stops

-- and they tell of all contents with that file
one_tells : (c d : Contents) (calls : List Call) → c.file ≡ d.file → AreOfFile c calls → TellAll d calls
one_tells c d calls same (inl is) = subst (TellAll d) (sym is) (same, tt)
one_tells c d calls same (inr (fault, stops)) = stopped_tells d calls fault stops

-- ---- a run ends where the contents stand

runs_stand : (c : Contents) (s t : State) (requests : List Request) (answers : List Answer) (calls : List Call) (p : Printed) → Stands c s
    → RunsAsMachine asked_of c s requests answers calls p t → Stands (left_by_all c calls) t
runs_stand c s t [] [] calls p stands (none, silent, same) = rw (none, same) stands
runs_stand c s t [] (answer ∷ answers) calls p stands run = absurd run
runs_stand c s t (request ∷ requests) [] calls p stands run = absurd run
runs_stand c s t (request ∷ requests) (answer ∷ answers) calls p stands (now, later, first, rest, mid, are, both, is, then, run) =
    subst (λ d. Stands d t) (sym (ap (left_by_all c) are ∙ left_by_all-append c now later))
    (runs_stand (left_by_all c now) mid t requests answers later rest then run)

-- ---- places

abbrev IsMissing : {X : Type 0} → Option X → Type 0
IsMissing None = Unit {0}
IsMissing (Some x) = ⊥

none_some : {X : Type 0} (x : X) → None ≡ Some x → ⊥
none_some x is = subst IsMissing is tt

abbrev with_journal : List ℕ → Option (List ℕ) → Option Places
with_journal journal None = None
with_journal journal (Some file) = Some (record { file = file; journal = journal })

-- a file is at its place, whichever journal is beside it
placed_beside : (leads : List ℕ → List ℕ) (file : Option (List ℕ)) (journal at : List ℕ) → option_map leads file ≡ Some at
    → places_by leads file journal ≡ Some (record { file = at; journal = leads journal })
placed_beside leads None journal at is = absurd (none_some at is)
placed_beside leads (Some file) journal at is = ap (with_journal (leads journal)) is

beside_at : (p : Places) (at : List ℕ) (c : Contents) (s : DiskState) → contents_at p s ≡ Some c
    → contents_at (record { file = p.file; journal = at }) s ≡ Some (record { file = c.file; journal = or_empty (shown s.bytes (s.at at)) })
beside_at p at c s read = ap (λ x. with_file x (or_empty (shown s.bytes (s.at at)))) (read_there p c s read).0

-- beside another journal the contents have the same file
beside : (p : Places) (at : List ℕ) (c : Contents) (story : Option Story) → contents_on (Some p) story ≡ Some c
    → (journal : List ℕ) × (contents_on (Some (record { file = p.file; journal = at })) story ≡ Some (record { file = c.file; journal = journal }))
beside p at c None read = ([], absurd (none_some c read))
beside p at c (Some story) read = (or_empty (shown story.now.bytes (story.now.at at)), beside_at p at c story.now read)

-- ---- a dry run

-- a sink that tells what went out
record Sunk : Type 0 where
  pub text : List ℕ
  pub failed : ℕ

abbrev text_in : Sunk → Option (List ℕ)
text_in sink = Some sink.text

abbrev failures_of : Sunk → ℕ
failures_of sink = sink.failed

-- from a state for which the contents stand, the machine printed what went out
abbrev WasDry : DiffStyle → Direction → ℕ → Sunk → Sunk → Option Contents → Type 0
WasDry style direction number out now known = IfSome known (λ c. (s t : State) → Stands c s → (through : IsThrough direction number s t)
    → (p : Printed) × WentOut text_in failures_of out now p
    × PreviewSteps style s (moving direction (Some number)) (answers_of direction (through.nearer ++ through.entry ∷ [])) p.text t)

-- ---- on a home on a disk

module _ (R : Type 0) {D F S : Type 0} (disk : Disk D F S) where
  abbrev Home : Type 0
  Home = DiskHome R D F S

  abbrev Go : Home → Call → Home → Type 0
  Go = HomeGoes disk

  abbrev at : Home → Option Places
  at = places_of disk

  abbrev told : Home → Option Story
  told home = disk.story home.disk

  -- the calls tell of what is at the places, and what they leave is there then
  went_on : (p : Places) (calls : List Call) (o n : Home) (c : Contents) → at o ≡ Some p → contents_on (Some p) (told o) ≡ Some c → Went Go o calls n
      → TellAll c calls × (contents_on (Some p) (told n) ≡ Some (left_by_all c calls))
  went_on p [] o n c is holds went = (tt, ap (λ (home : Home). contents_on (Some p) (told home)) went ∙ holds)
  went_on p (call ∷ calls) o n c is holds (mid, goes, went) =
      let follows : TellsOf c call × (contents_on (at mid) (told mid) ≡ Some (left_by c call)) =
      subst (λ x. IfSome x (λ c. TellsOf c call × (contents_on (at mid) (told mid) ≡ Some (left_by c call)))) (ap (λ x. contents_on x (told o)) is ∙ holds) goes.0.follows in
      let still : at mid ≡ Some p = goes.0.same ∙ is in
      let rest = went_on p calls mid n (left_by c call) still (sym (ap (λ x. contents_on x (told mid)) still) ∙ follows.1) went in
      ((follows.0, rest.0), rest.1)

  -- reads change nothing
  went_reading : (p : Places) (calls : List Call) (o n : Home) → at o ≡ Some p → Went Go o calls n → AreReads calls → told n ≡ told o
  went_reading p [] o n is went reads = ap told went
  went_reading p (call ∷ calls) o n is (mid, goes, went) reads =
      let here : IsCallAt disk p (told o) call (told mid) = subst (λ x. IfSome x (λ p. IsCallAt disk p (told o) call (told mid))) is goes.0.calls in
      went_reading p calls mid n (goes.0.same ∙ is) went reads.1 ∙ here.still reads.0

  module _ (p : Places) (c : Contents) (s : State) where
    abbrev Then : Option Story → State → Type 0
    Then story t = (d : Contents) × StandsAt p story d t

    module _ (request : Request) (answer : Answer) (calls : List Call) (printed : Printed) (o n : Home)
        (done : Attempts Go o n (asked_of request) answer calls printed) (here : StandsAt p (told o) c s) where
      -- a request on both
      request_runs : at o ≡ Some p → (t : State) × IsAnswer s (asked_of request) answer calls printed t × Then (told n) t
      request_runs is =
          let on = went_on p calls o n c is here.told done.0 in
          let does : Does c (asked_of request) answer calls printed = done.2 c on.0 in
          let step = does-steps c s (asked_of request) here.stands answer calls printed (all_stops c s (asked_of request) calls here.stands here.regular) does in (
            step.0,
            step.1,
            (
              left_by_all c calls,
              record { told = on.1; stands = step.2; regular = does-regular c (asked_of request) here.regular answer calls printed does },
            ),
          )

      -- one that reads the file alone
      look_runs : reads_of (asked_of request) ≡ TheFile ∷ [] → option_map disk.leads (option_map string_bytes o.file) ≡ Some p.file
          → (t : State) × IsAnswer s (asked_of request) answer calls printed t × Then (told n) t
      look_runs reads is =
          let beside_it : Places = record { file = p.file; journal = disk.leads (string_bytes o.journal) } in
          let placed : at o ≡ Some beside_it = placed_beside disk.leads (option_map string_bytes o.file) (string_bytes o.journal) p.file is in
          let other = beside p (disk.leads (string_bytes o.journal)) c (told o) here.told in
          let near : Contents = record { file = c.file; journal = other.0 } in
          let on = went_on beside_it calls o n near placed other.1 done.0 in
          let of_file = does_one near (asked_of request) answer printed reads calls (done.2 near on.0) in
          let does : Does c (asked_of request) answer calls printed = done.2 c (one_tells near c calls refl of_file) in
          let step = does-steps c s (asked_of request) here.stands answer calls printed (all_stops c s (asked_of request) calls here.stands here.regular) does in
          let same : left_by_all c calls ≡ c = does-looks c (asked_of request) calls printed answer (reads_one (asked_of request) reads) does in
          let still : told n ≡ told o = went_reading beside_it calls o n placed done.0 (one_reads near calls of_file) in (
            step.0,
            step.1,
            (
              c,
              record {
                told = ap (contents_on (Some p)) still ∙ here.told;
                stands = subst (λ d. Stands d step.0) same step.2;
                regular = here.regular;
              },
            ),
          )

    -- moves
    moves_run : (requests : List Request) (answers : List Answer) (calls : List Call) (printed : Printed) (o n : Home) → AttemptsAll Go o n requests answers calls printed
        → StandsAt p (told o) c s → at o ≡ Some p → (t : State) × RunsAsMachine asked_of c s requests answers calls printed t × Then (told n) t
    moves_run requests answers calls printed o n done here is =
        let on = went_on p calls o n c is here.told (AttemptsAll-went Go o n requests answers calls printed done) in
        let (t, run, regular) = attempts_all-fails Go o n c s requests answers calls printed here.stands here.regular on.0 done in
        (t, run, (left_by_all c calls, record { told = on.1; stands = runs_stand c s t requests answers calls printed here.stands run; regular = regular }))

    -- a dry run of moves
    dry_runs : (style : DiffStyle) (direction : Direction) (number : ℕ) (answers : List Answer) (o n : Home) (ended : Through) (printed : Printed)
        → EndsThrough direction number answers ended → PreviewsThrough Go o n style direction number answers printed → at o ≡ Some p → StandsAt p (told o) c s
        → IfOk ended.answer (λ reply. IsDryRun style direction number s printed.text)
    dry_runs style direction number answers o n ended printed ends previews is here =
        let out : Sunk = record { text = []; failed = printed.before } in
        let now : Sunk = record { text = printed.text; failed = printed.after } in
        let known : contents_of disk o ≡ Some c = ap (λ x. contents_on x (told o)) is ∙ here.told in
        let ran : RanDry Go text_in failures_of style direction number o n out now ended = (answers, ends, printed, (refl, refl, refl), previews) in
        if_ok_so ended.answer (λ reply. WasDry style direction number out now (contents_of disk o)) (λ reply. IsDryRun style direction number s printed.text)
        (λ reply told_so t through.
        let (p, went_out, steps) = subst (WasDry style direction number out now) known told_so s t here.stands through in
        subst (λ text. PreviewSteps style s (moving direction (Some number)) (answers_of direction (through.nearer ++ through.entry ∷ [])) text t) (sym went_out.0) steps)
        (dry-previewed Go text_in failures_of style direction number o n (contents_of disk) (λ one other call goes. goes.0.follows) out now ended ran)

    -- ---- a job

    -- a home has its file and its journal at the places, or its file, if the job reads that alone
    abbrev HomeAt : Home → Job → Type 0
    HomeAt o job = (at o ≡ Some p) ⊎ (ReadsFile job × (option_map disk.leads (option_map string_bytes o.file) ≡ Some p.file))

    job_runs : (o n : Home) (before after : Out) (job : Job) (answer : Answer) (done : Answers disk Go o n before after job answer) → HomeAt o job → StandsAt p (told o) c s
        → (t : State) × JobRuns disk Go o n before after job answer done c s t × Then (told n) t
    job_runs o n before after (Once request) answer done (inl is) here = request_runs request done.told done.calls done.printed o n done.attempts here is
    job_runs o n before after (Once request) answer done (inr (reads, is)) here = look_runs request done.told done.calls done.printed o n done.attempts here reads is
    job_runs o n before after (MovesThrough direction number) answer (same, done) (inl is) here =
        moves_run (moves_through direction number done.answers) done.answers done.calls done.printed o n done.attempts here is
    job_runs o n before after (MovesThrough direction number) answer done (inr (reads, is)) here = absurd reads
    job_runs o n before after (DryThrough direction number style) answer done (inl is) here =
        let still : told n ≡ told o = subst (λ x. IfSome x (λ p. told n ≡ told o)) is done.still in
        (s, (refl, dry_runs style direction number done.answers o n done.told done.printed done.ends done.previews is here), (c, subst (λ x. StandsAt p x c s) (sym still) here))
    job_runs o n before after (DryThrough direction number style) answer done (inr (reads, is)) here = absurd reads

    task_runs : (o closed : Home) (taken : Option (List ℕ)) (out : Option Out) (job : Job) (answer : Answer) (done : AnswersOn disk Go o closed taken out job answer) → HomeAt o job
        → StandsAt p (told o) c s → (t : State) × TaskRuns disk Go o closed taken out job answer done c s t × Then (told closed) t
    task_runs o closed taken None job answer (home, (refused, same), closing) is here =
        (s, refl, (c, subst (λ x. StandsAt p x c s) (sym (ap disk.story closing.disk ∙ ap told same)) here))
    task_runs o closed taken (Some after) job answer (home, done, closing) is here =
        let (t, run, then) = job_runs o home (new_out taken) after job answer done is here in
        (t, run, subst (λ x. Then x t) (sym (ap disk.story closing.disk)) then)

    -- ---- a line

    home_at : (o : Home) (task : Job × Option (List ℕ) × Option (List ℕ)) → option_map string_bytes o.file ≡ task.1 → string_bytes o.journal ≡ unwrap_or task.2 []
        → IsAt disk Go p task → HomeAt o task.0
    home_at o task file journal (inl is) = inl (ap (λ x. places_by disk.leads x (string_bytes o.journal)) file ∙ ap (places_by disk.leads task.1) journal ∙ is)
    home_at o task file journal (inr (reads, is)) = inr (reads, ap (option_map disk.leads) file ∙ is)

    line_runs : (first last : D) (taken : Option (List ℕ)) (out : Option Out) (line : CommandLine) (answer : Answer)
        → ((task : Job × Option (List ℕ) × Option (List ℕ)) → IsFoundFor disk (disk.story first) line (Ok task) → IsAt disk Go p task)
        → (done : IsDone disk Go first last taken out line answer) → StandsAt p (disk.story first) c s
        → (t : State) × LineRuns disk Go first last taken out line answer done c s t × Then (disk.story last) t
    line_runs first last taken out line answer asks (Ok task, found, done) here =
        let at_home : StandsAt p (told done.home) c s = subst (λ x. StandsAt p x c s) (sym (ap disk.story done.home_is.disk_is ∙ done.same)) here in
        let placed = home_at done.home task done.home_is.file_is done.home_is.journal_is (asks task found) in
        let (t, run, then) = task_runs done.home done.closed taken out task.0 answer done.answered placed at_home in
        (t, run, subst (λ x. Then x t) (sym (ap disk.story done.last_is)) then)
    line_runs first last taken out line answer asks (Err fault, found, (answered, same, none)) here =
        (s, refl, (c, subst (λ x. StandsAt p x c s) (sym same) here))

    -- ---- a start

    module _ (first last : D) (taken : Option (List ℕ)) (out : Option Out) (here : StandsAt p (disk.story first) c s) where
      abbrev Done : CommandLine → Answer → Type 0
      Done = IsDone disk Go first last taken out

      abbrev DoneTo : State → CommandLine → Answer → Type 0
      DoneTo t line answer = (done : Done line answer) × LineRuns disk Go first last taken out line answer done c s t

      module _ (words : List (List ℕ)) (asks : AskAt disk Go p (disk.story first) words) where
        done_to : (line : CommandLine) (answer : Answer) → IsParsed words (Ok line) → Done line answer → (t : State) × DoneTo t line answer × Then (disk.story last) t
        done_to line answer parsed done =
            let (t, run, then) = line_runs first last taken out line answer (λ task. asks line task parsed) done here in (t, (done, run), then)

        replied_to : (line : CommandLine) (answer : Result (Option Reply) Fault) → IsParsed words (Ok line) → IsReplied (Done line) answer
            → (t : State) × IsReplied (DoneTo t line) answer × Then (disk.story last) t
        replied_to line (Ok None) parsed done = absurd done
        replied_to line (Ok (Some reply)) parsed done = done_to line (Ok reply) parsed done
        replied_to line (Err fault) parsed done = done_to line (Err fault) parsed done

        answered_to : (answer : Result (Option Reply) Fault) → IsAnswerTo Done (last ≡ first) words answer
            → (t : State) × IsAnswerTo (DoneTo t) ((last ≡ first) × (t ≡ s)) words answer × Then (disk.story last) t
        answered_to answer (Ok line, parsed, done) = let (t, run, then) = replied_to line answer parsed done in (t, (Ok line, parsed, run), then)
        answered_to answer (Err refusal, parsed, (refused, same)) =
            (s, (Err refusal, parsed, (refused, (same, refl))), (c, subst (λ x. StandsAt p x c s) (sym (ap disk.story same)) here))

    start_runs : (first last : D) (start : Start) → StandsAt p (disk.story first) c s → IsStart disk Go p first start last
        → (t : State) × IsRun disk Go first start last c s t × Then (disk.story last) t
    start_runs first last start here (asks, answered) = answered_to first last start.taken start.out here start.words asks start.answer answered

  -- ---- starts

  pub starts_are_runs : StartsAreRuns disk Go
  starts_are_runs p first last [] c s here done = (s, (done, refl, (c, subst (λ x. StandsAt p x c s) (sym done) here)))
  starts_are_runs p first last (start ∷ starts) c s here (found, left, same, is, later) =
      let there : StandsAt p (disk.story found) c s = subst (λ x. StandsAt p x c s) (sym same) here in
      let (mid, run, (d, then)) = start_runs p c s found left start there is in
      let (t, runs) = starts_are_runs p left last starts d mid then later in
      (t, (found, left, same, mid, (c, there, run), runs))
