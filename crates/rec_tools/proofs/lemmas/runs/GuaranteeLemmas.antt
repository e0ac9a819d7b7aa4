-- From what requests do to what the machine does.
use Rattle.std.proofs.Common.{◌≡◌, inl, inr, ℕ, List, [], ◌∷◌, ◌++◌, length, take, Ok, Err, ap, sym, subst, refl, ◌∙◌, arith}
use Rattle.std.proofs.lemmas.List.{take_all}
use Rattle.rec_journal.specs.History.{IsRegular}
use Rattle.rec_tools.specs.declared.request.Request.{Request}
use Rattle.rec_tools.specs.Home.{Contents, written, Call, left_by_all, TellAll, HasFailed}
use Rattle.rec_tools.specs.Printouts.{Printed}
use Rattle.rec_tools.specs.Requests.{asked_of}
use Rattle.rec_tools.specs.Asked.{Asked, reads_of}
use Rattle.rec_tools.specs.Outcomes.{Outcome, IsRequestOutcome}
use Rattle.rec_tools.specs.Attempts.{Answer, gots, StopsWriting, IsAnswered, IsPrefix, IsUnread, RanShort, IsRefused, StopsPrinting, IsCarriedOut, Does, AttemptsAll}
use Rattle.rec_tools.specs.Machine.{IsMachineStep}
use Rattle.rec_tools.specs.Stands.{Stands}
use Rattle.rec_tools.specs.Answers.{IsMachinePrefix, IsOldOrNext, IsAnswer}
use Rattle.rec_tools.specs.States.{State}
use Rattle.rec_tools.specs.Guarantee.{RunsAsMachine, StepsAsMachine}
use Rattle.rec_tools.proofs.lemmas.calls.CallLemmas.{HasFailed-prefix, HasFailed-rest, TellAll-prefix, TellAll-rest, left_by_all-append}
use Rattle.rec_tools.proofs.lemmas.runs.RunLemmas.{left-gots, left-puts, stopped-failed, left-stopped, cut-failed, left-carried}
use Rattle.rec_tools.proofs.lemmas.machine.StepLemmas.{outcomes_are_steps}
use Rattle.rec_tools.proofs.lemmas.runs.StopLemmas.{cut_stands, does-regular}

-- ---- one request

-- Where a write of these calls fails, the contents stand for the state as it was or for the machine's next. Nothing is asked
-- where no call failed; elsewhere a regular journal gives it.
abbrev pub Stops : Contents → State → Asked → List Call → Type 0
Stops c s asked calls = (o : Outcome) (cut : List Call) → IsRequestOutcome c asked (Ok o) → calls ≡ gots c (reads_of asked) ++ cut → StopsWriting o.writes cut
    → (t : State) × IsOldOrNext s asked t × Stands (left_by_all c cut) t

pub no_stops : (c : Contents) (s : State) (asked : Asked) (calls : List Call) → (HasFailed calls → ⊥) → Stops c s asked calls
no_stops c s asked calls held o cut is e stops =
    absurd (held (subst HasFailed (sym e) (HasFailed-rest (gots c (reads_of asked)) cut (cut-failed o.writes cut stops))))

pub all_stops : (c : Contents) (s : State) (asked : Asked) (calls : List Call) → Stands c s → IsRegular c.journal → Stops c s asked calls
all_stops c s asked calls stands regular o cut is e stops = cut_stands c asked o is regular cut stops s stands

-- the machine's next state after what a request did
abbrev pub Steps : Contents → State → Asked → Answer → List Call → Printed → Type 0
Steps c s asked answer calls p = (t : State) × IsAnswer s asked answer calls p t × Stands (left_by_all c calls) t

module _ (c : Contents) (s : State) (asked : Asked) (stands : Stands c s) where
  -- a prefix of what the outcome prints is one of what the machine prints
  prefix-machine : (printed : List ℕ) → IsPrefix c asked printed → IsMachinePrefix s asked printed
  prefix-machine printed prefix =
      let step : StepsAsMachine c s asked (Ok prefix.0) = outcomes_are_steps c s asked (Ok prefix.0) stands prefix.2 in
      inr (prefix.0.reply, prefix.0.text, step.0, prefix.1, step.1, prefix.3)

  stands-same : (calls : List Call) → left_by_all c calls ≡ c → Stands (left_by_all c calls) s
  stands-same calls same = subst (λ d. Stands d s) (sym same) stands

  unread-steps : (answer : Answer) (calls : List Call) (p : Printed) → IsUnread c asked answer calls p → Steps c s asked answer calls p
  unread-steps answer calls p done =
      let same = left-stopped c (reads_of asked) calls done.fault done.stops in
      elim (stopped-failed (reads_of asked) calls done.fault done.stops) [
        | inl short ↦ (s, inr (inl (inl (done.answered ∙ ap Err short, refl), inl done.silent.0)), stands-same calls same)
        | inr failed ↦ (s, inr (inl (inr (inr (done.answered ∙ ap Err failed.0, failed.1, inl refl)), inl done.silent.0)), stands-same calls same)
      ]

  read-same : (calls : List Call) → calls ≡ gots c (reads_of asked) → left_by_all c calls ≡ c
  read-same calls read = ap (left_by_all c) read ∙ left-gots c (reads_of asked)

  short-steps : (answer : Answer) (calls : List Call) (p : Printed) → RanShort c asked answer calls p → Steps c s asked answer calls p
  short-steps answer calls p done =
      let prefix : IsMachinePrefix s asked p.text = elim done.printed [ inl none ↦ inl none | inr some ↦ prefix-machine p.text some ] in
      (s, inr (inl (inl (done.answered, refl), prefix)), stands-same calls (read-same calls done.read))

  refused-steps : (answer : Answer) (calls : List Call) (p : Printed) → IsRefused c asked answer calls p → Steps c s asked answer calls p
  refused-steps answer calls p done =
      let step : StepsAsMachine c s asked (Err done.fault) = outcomes_are_steps c s asked (Err done.fault) stands done.outcome in
      let same = stands-same calls (read-same calls done.read) in
      elim step [
        | inl is ↦ (s, inl (subst (λ a. IsMachineStep s asked a p.text s) (sym done.answered) (subst (λ text. IsMachineStep s asked (Err done.fault) text s) (sym done.silent.0) is)), same)
        | inr clash ↦ (s, inr (inr (done.answered ∙ ap Err clash.0, refl, done.silent.0, clash.1)), same)
      ]

  stopped-steps : (answer : Answer) (calls : List Call) (p : Printed) → StopsPrinting c asked answer calls p → Steps c s asked answer calls p
  stopped-steps answer calls p done =
      (s, inr (inl (inr (inl (done.answered, done.risen, refl)), prefix-machine p.text done.printed)), stands-same calls (read-same calls done.read))

  carried-steps : (answer : Answer) (calls : List Call) (p : Printed) → Stops c s asked calls → (done : IsCarriedOut c asked answer calls p)
      → IsAnswered done.o answer done.following → Steps c s asked answer calls p
  carried-steps answer calls p stops done (inl put) =
      let step : StepsAsMachine c s asked (Ok done.o) = outcomes_are_steps c s asked (Ok done.o) stands done.outcome in
      let left : left_by_all c calls ≡ written c done.o.writes =
      left-carried c asked calls p done.following done.calls_are ∙ ap (left_by_all c) put.1 ∙ left-puts c done.o.writes in (
        step.0,
        inl (subst (λ a. IsMachineStep s asked a p.text step.0) (sym put.0) (subst (λ text. IsMachineStep s asked (Ok done.o.reply) text step.0) (sym done.printed) step.1)),
        subst (λ d. Stands d step.0) (sym left) step.2,
      )
  carried-steps answer calls p stops done (inr stopped) =
      let step : StepsAsMachine c s asked (Ok done.o) = outcomes_are_steps c s asked (Ok done.o) stands done.outcome in
      let next = stops done.o done.following done.outcome done.calls_are stopped.1 in
      let failed : HasFailed calls =
      subst HasFailed (sym done.calls_are) (HasFailed-rest (gots c (reads_of asked)) done.following (cut-failed done.o.writes done.following stopped.1)) in
      let whole : p.text ≡ take (length done.o.text) done.o.text = done.printed ∙ sym (take_all (length done.o.text) done.o.text (omega arith)) in (
        next.0,
        inr (inl (inr (inr (stopped.0, failed, next.1)), inr (done.o.reply, done.o.text, step.0, length done.o.text, step.1, whole))),
        subst (λ d. Stands d next.0) (sym (left-carried c asked calls p done.following done.calls_are)) next.2,
      )

  pub does-steps : (answer : Answer) (calls : List Call) (p : Printed) → Stops c s asked calls → Does c asked answer calls p → Steps c s asked answer calls p
  does-steps answer calls p stops (inl done) = unread-steps answer calls p done
  does-steps answer calls p stops (inr (inl done)) = short-steps answer calls p done
  does-steps answer calls p stops (inr (inr (inl done))) = refused-steps answer calls p done
  does-steps answer calls p stops (inr (inr (inr (inl done)))) = stopped-steps answer calls p done
  does-steps answer calls p stops (inr (inr (inr (inr done)))) = carried-steps answer calls p stops done done.answered

-- ---- many requests

pub attempts_all-runs : {H : Type 0} (goes : H → Call → H → Type 0) (old new : H) (c : Contents) (s : State) (requests : List Request) (answers : List Answer) (calls : List Call) (p : Printed)
    → Stands c s → (HasFailed calls → ⊥) → TellAll c calls → AttemptsAll goes old new requests answers calls p → (t : State) × RunsAsMachine asked_of c s requests answers calls p t
attempts_all-runs goes old new c s [] [] calls p stands held tells done = (s, (done.1, done.2, refl))
attempts_all-runs goes old new c s [] (answer ∷ answers) calls p stands held tells done = absurd done
attempts_all-runs goes old new c s (request ∷ requests) [] calls p stands held tells done = absurd done
attempts_all-runs goes old new c s (request ∷ requests) (answer ∷ answers) calls p stands held tells (mid, now, later, first, rest, are, both, tried, tried_later) =
    let held_now : HasFailed now → ⊥ = λ failed. held (subst HasFailed (sym are) (HasFailed-prefix now later failed)) in
    let held_later : HasFailed later → ⊥ = λ failed. held (subst HasFailed (sym are) (HasFailed-rest now later failed)) in
    let told : TellAll c (now ++ later) = subst (TellAll c) are tells in
    let step = does-steps c s (asked_of request) stands answer now first (no_stops c s (asked_of request) now held_now) (tried.2 c (TellAll-prefix c now later told)) in
    let steps = attempts_all-runs goes mid new (left_by_all c now) step.0 requests answers later rest step.2 held_later (TellAll-rest c now later told) tried_later in
    (steps.0, (now, later, first, rest, step.0, are, both, step.1, step.2, steps.1))

-- the same whatever fails, where the journal is regular
pub attempts_all-fails : {H : Type 0} (goes : H → Call → H → Type 0) (old new : H) (c : Contents) (s : State) (requests : List Request) (answers : List Answer) (calls : List Call) (p : Printed)
    → Stands c s → IsRegular c.journal → TellAll c calls → AttemptsAll goes old new requests answers calls p
    → (t : State) × RunsAsMachine asked_of c s requests answers calls p t × IsRegular (left_by_all c calls).journal
attempts_all-fails goes old new c s [] [] calls p stands regular tells done =
    (s, (done.1, done.2, refl), subst (λ made. IsRegular (left_by_all c made).journal) (sym done.1) regular)
attempts_all-fails goes old new c s [] (answer ∷ answers) calls p stands regular tells done = absurd done
attempts_all-fails goes old new c s (request ∷ requests) [] calls p stands regular tells done = absurd done
attempts_all-fails goes old new c s (request ∷ requests) (answer ∷ answers) calls p stands regular tells (mid, now, later, first, rest, are, both, tried, tried_later) =
    let told : TellAll c (now ++ later) = subst (TellAll c) are tells in
    let does = tried.2 c (TellAll-prefix c now later told) in
    let step = does-steps c s (asked_of request) stands answer now first (all_stops c s (asked_of request) now stands regular) does in
    let stays : IsRegular (left_by_all c now).journal = does-regular c (asked_of request) regular answer now first does in
    let steps = attempts_all-fails goes mid new (left_by_all c now) step.0 requests answers later rest step.2 stays (TellAll-rest c now later told) tried_later in
    let left : left_by_all c calls ≡ left_by_all (left_by_all c now) later = ap (left_by_all c) are ∙ left_by_all-append c now later in
    (steps.0, (now, later, first, rest, step.0, are, both, step.1, step.2, steps.1), subst (λ (d : Contents). IsRegular d.journal) (sym left) steps.2)
