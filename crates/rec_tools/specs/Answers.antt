-- Answers that the machine allows, also where memory or a call fails, or two texts share a digest.
use Rattle.std.specs.Prelude.{◌≡◌, ◌≢◌, ◌⊎◌, ℕ, List, [], take, Ok, Err}
use Rattle.rec_text.specs.declared.fault.Fault.TheVariants.{OutOfMemory, DigestClash, StoreFailed}
use Rattle.rec_text.specs.Sink.{HasRisen}
use Rattle.rec_journal.specs.Plans.{ShareDigest}
use Rattle.rec_tools.specs.declared.request.Reply.{Reply}
use Rattle.rec_tools.specs.Home.{Call, HasFailed}
use Rattle.rec_tools.specs.Printouts.{Printed}
use Rattle.rec_tools.specs.Asked.{Asked, changing, previewing}
use Rattle.rec_tools.specs.Attempts.{Answer}
use Rattle.rec_tools.specs.States.{State}
use Rattle.rec_tools.specs.Machine.{IsChangeStep, IsMachineStep}

-- nothing, or a prefix of a text that the machine prints, went out
abbrev pub IsMachinePrefix : State → Asked → List ℕ → Type 0
IsMachinePrefix s asked printed =
    (printed ≡ [])
    ⊎ ((reply : Reply) × (text : List ℕ) × (t : State) × (n : ℕ)
    × IsMachineStep s asked (Ok reply) text t × (printed ≡ take n text))

-- the state is as it was, or the machine's next
abbrev pub IsOldOrNext : State → Asked → State → Type 0
IsOldOrNext s asked t = (t ≡ s) ⊎ ((reply : Reply) × (text : List ℕ) × IsMachineStep s asked (Ok reply) text t)

-- Why a request stops short: memory ran out, or the sink failed, and the state is as it was; or a call of the home
-- failed, and the state is as it was or the next.
abbrev pub IsStop : State → Asked → Answer → List Call → Printed → State → Type 0
IsStop s asked answer calls p t =
    ((answer ≡ Err OutOfMemory) × (t ≡ s))
    ⊎ (((answer ≡ Err StoreFailed) × HasRisen p.before p.after × (t ≡ s))
    ⊎ ((answer ≡ Err StoreFailed) × HasFailed calls × IsOldOrNext s asked t))

-- the machine would go on so by the change that is asked for, or previewed
abbrev pub WouldGo : State → Asked → Reply → State → Type 0
WouldGo s (changing change) reply later = IsChangeStep s change (Ok reply) later
WouldGo s (previewing Tells change) reply later = IsChangeStep s change (Ok reply) later
WouldGo s _ reply later = ⊥

-- it would go on to another text, which shares its digest with the present one
pub record Clashes (s : State) (asked : Asked) : Type 0 where
  pub reply : Reply
  pub later : State
  pub step : WouldGo s asked reply later
  pub differ : later.present ≢ s.present
  pub same_digest : ShareDigest s.present later.present

-- The answer is the machine's, and so is what is printed; or the request stopped short, after a prefix of what the
-- machine prints; or it is 18, and the next text shares its digest with the present one.
abbrev pub IsAnswer : State → Asked → Answer → List Call → Printed → State → Type 0
IsAnswer s asked answer calls p t =
    IsMachineStep s asked answer p.text t
    ⊎ ((IsStop s asked answer calls p t × IsMachinePrefix s asked p.text)
    ⊎ ((answer ≡ Err DigestClash) × (t ≡ s) × (p.text ≡ []) × Clashes s asked))
