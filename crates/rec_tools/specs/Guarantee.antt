-- The guarantee: every run of requests is a run of the history machine, also where the stores fail.
use Rattle.std.specs.Prelude.{◌≡◌, ◌⊎◌, List, [], ◌∷◌, ◌++◌, Result, Ok, Err}
use Rattle.rec_text.specs.declared.fault.Fault.{Fault}
use Rattle.rec_text.specs.declared.fault.Fault.TheVariants.{DigestClash}
use Rattle.rec_journal.specs.History.{IsRegular}
use Rattle.rec_tools.specs.declared.request.Request.{Request}
use Rattle.rec_tools.specs.Home.{Contents, written, Call, left_by_all}
use Rattle.rec_tools.specs.Printouts.{Printed, IsBoth, IsSilence}
use Rattle.rec_tools.specs.Requests.{asked_of}
use Rattle.rec_tools.specs.Asked.{Asked}
use Rattle.rec_tools.specs.Outcomes.{Outcome, IsRequestOutcome}
use Rattle.rec_tools.specs.Attempts.{Answer, StopsWriting}
use Rattle.rec_tools.specs.Machine.{IsMachineStep}
use Rattle.rec_tools.specs.Stands.{Stands}
use Rattle.rec_tools.specs.Answers.{IsOldOrNext, IsAnswer, Clashes}
use Rattle.rec_tools.specs.States.{State}

-- Whatever requests ask for, contents and the machine's state go through them together: each answer is one that the
-- machine allows, so is what is printed, and after each request the contents that its calls left stand for the state.
abbrev pub RunsAsMachine : {R : Type 0} → (R → Asked) → Contents → State → List R → List Answer → List Call → Printed
    → State → Type 0
RunsAsMachine asks c s [] [] calls p t = (calls ≡ []) × IsSilence p × (t ≡ s)
RunsAsMachine asks c s [] (answer ∷ answers) calls p t = ⊥
RunsAsMachine asks c s (request ∷ requests) [] calls p t = ⊥
RunsAsMachine asks c s (request ∷ requests) (answer ∷ answers) calls p t =
    (now later : List Call) × (first rest : Printed) × (mid : State)
    × (calls ≡ now ++ later) × IsBoth p first rest × IsAnswer s (asks request) answer now first mid
    × Stands (left_by_all c now) mid
    × RunsAsMachine asks (left_by_all c now) mid requests answers later rest t

-- ---- the laws of one request, from which it follows

-- An outcome on contents that stand for a state is the machine's: its reply, what it prints, and written contents that
-- stand for its next state; a refusal is the machine's answer, or two texts share a digest.
abbrev pub StepsAsMachine : Contents → State → Asked → Result Outcome Fault → Type 0
StepsAsMachine c s asked (Ok o) = (t : State) × IsMachineStep s asked (Ok o.reply) o.text t
    × Stands (written c o.writes) t
StepsAsMachine c s asked (Err fault) = IsMachineStep s asked (Err fault) [] s
    ⊎ ((fault ≡ DigestClash) × Clashes s asked)

-- whatever a request comes to on contents that stand for a state, the machine steps so
abbrev pub OutcomesAreSteps : Type 0
OutcomesAreSteps = (c : Contents) (s : State) (request : Request) (r : Result Outcome Fault)
    → Stands c s → IsRequestOutcome c (asked_of request) r → StepsAsMachine c s (asked_of request) r

-- A request whose write fails leaves contents that stand for the state as it was or for the machine's next; the journal
-- stays regular.
abbrev pub StopsAreSteps : Type 0
StopsAreSteps = (c : Contents) (s : State) (request : Request) (o : Outcome) (calls : List Call)
    → Stands c s → IsRegular c.journal → IsRequestOutcome c (asked_of request) (Ok o) → StopsWriting o.writes calls
    → (t : State) × IsOldOrNext s (asked_of request) t × Stands (left_by_all c calls) t
    × IsRegular (left_by_all c calls).journal

-- a regular journal stays so where all is written
abbrev pub WritesAreRegular : Type 0
WritesAreRegular = (c : Contents) (request : Request) (o : Outcome)
    → IsRegular c.journal → IsRequestOutcome c (asked_of request) (Ok o) → IsRegular (written c o.writes).journal
