-- Moves through the edit of a number that aren't refused reach it: the contents stand for the state there.
use Rattle.std.proofs.Common.{◌≡◌, ◌∙◌, inl, inr, ℕ, true, false, Option, Some, None, List, [], ◌∷◌, ◌++◌, length, replicate, reverse, Ok, Err, ap, sym, subst, refl}
use Rattle.std.specs.Prelude.{IfSome, IfOk, IsSomeAnd, slice_get}
use Rattle.std.proofs.lemmas.List.{reverse-append, reverse-reverse}
use Rattle.std.specs.List.{AllByRecursion}
use Rattle.std.proofs.lemmas.Bool.{false≢true}
use Rattle.rec_text.specs.declared.fault.Fault.TheVariants.{OutOfMemory, DigestClash, StoreFailed}
use Rattle.rec_text.proofs.lemmas.FaultLemmas.{no_both}
use Rattle.rec_journal.specs.declared.patch.Direction.{Direction}
use Rattle.rec_journal.specs.declared.patch.Direction.TheVariants.{Forward, Backward}
use Rattle.rec_tools.specs.declared.request.Reply.{Reply}
use Rattle.rec_tools.specs.declared.request.Request.TheVariants.{Change as Changes}
use Rattle.rec_tools.specs.declared.through.Through.{Through}
use Rattle.rec_tools.specs.Home.{Contents, Call, left_by, left_by_all, TellsOf, TellAll, HasFailed}
use Rattle.rec_tools.specs.Printouts.{Printed}
use Rattle.rec_tools.specs.Requests.{change_of}
use Rattle.rec_tools.specs.Asked.{AskedChange, moving, changing}
use Rattle.rec_tools.specs.Attempts.{Answer, Does, AttemptsAll}
use Rattle.rec_tools.specs.Machine.{IsChangeStep}
use Rattle.rec_tools.specs.Stands.{Stands}
use Rattle.rec_tools.specs.Answers.{IsAnswer}
use Rattle.rec_tools.specs.States.{State}
use Rattle.rec_tools.specs.Through.{move_through, moves_through, moved_by, leads_on, LeadThrough, StepsAgain, IsThrough}
use Rattle.rec_tools.specs.proving.Moving.{GoesThrough}
use Rattle.rec_tools.proofs.lemmas.calls.CallLemmas.{Follows, contents_follow, TellAll-prefix, TellAll-rest, left_by_all-append}
use Rattle.rec_tools.proofs.lemmas.runs.RunLemmas.{does-kept}
use Rattle.rec_tools.proofs.lemmas.runs.GuaranteeLemmas.{no_stops, does-steps}
use Rattle.rec_tools.proofs.lemmas.runs.RunAllLemmas.{AttemptsAll-went}
use Rattle.rec_tools.proofs.lemmas.runs.LeadingLemmas.{moves_lead_there}

-- ---- answers without a refusal

abbrev pub IsDone : Answer → Type 0
IsDone answer = (reply : Reply) × (answer ≡ Ok reply)

done_where_moved : (answer : Answer) (direction : Direction) (number : ℕ) (last : Option ℕ) → leads_on direction number last (moved_by answer) ≡ true → IsDone answer
done_where_moved (Ok reply) direction number last leads = (reply, refl)
done_where_moved (Err fault) direction number last leads = absurd (false≢true leads)

-- where the last isn't refused, none is
pub all_done : (direction : Direction) (number : ℕ) (last : Option ℕ) (answers : List Answer) (answer : Answer) → IsDone answer
    → LeadThrough direction number last (answers ++ answer ∷ []) → AllByRecursion IsDone (answers ++ answer ∷ [])
all_done direction number last [] answer done lead = (done, tt)
all_done direction number last (a ∷ []) answer done lead = (done_where_moved a direction number last lead.0, (done, tt))
all_done direction number last (a ∷ (b ∷ answers)) answer done lead =
    (done_where_moved a direction number last lead.0, all_done direction number (moved_by a) (b ∷ answers) answer done lead.1)

pub asked_through : (direction : Direction) (number : ℕ) → change_of (move_through direction number) ≡ moving direction (Some number)
asked_through Backward number = refl
asked_through Forward number = refl

-- ---- the machine's steps

-- the answer to a move that isn't refused is the machine's
step_of_done : (s t : State) (direction : Direction) (number : ℕ) (reply : Reply) (calls : List Call) (p : Printed)
    → IsAnswer s (changing (moving direction (Some number))) (Ok reply) calls p t → IsChangeStep s (moving direction (Some number)) (Ok reply) t
step_of_done s t direction number reply calls p (inl step) = step.0
step_of_done s t direction number reply calls p (inr (inl (inl short, prefix))) = absurd (no_both reply OutOfMemory short.0)
step_of_done s t direction number reply calls p (inr (inl (inr (inl stopped), prefix))) = absurd (no_both reply StoreFailed stopped.0)
step_of_done s t direction number reply calls p (inr (inl (inr (inr failed), prefix))) = absurd (no_both reply StoreFailed failed.0)
step_of_done s t direction number reply calls p (inr (inr clash)) = absurd (no_both reply DigestClash clash.0)

module _ {H : Type 0} (goes : H → Call → H → Type 0) (direction : Direction) (number : ℕ) where
  abbrev change : AskedChange
  change = moving direction (Some number)

  -- what was done without a refusal is a step of the machine
  steps_by_one : (c : Contents) (s : State) (reply : Reply) (calls : List Call) (p : Printed) → Stands c s → Does c (changing change) (Ok reply) calls p
      → (t : State) × IsChangeStep s change (Ok reply) t × Stands (left_by_all c calls) t
  steps_by_one c s reply calls p stands does =
      let held : HasFailed calls → ⊥ = elim (does-kept c (changing change) calls p (Ok reply) does) [ inl failed ↦ absurd (no_both reply StoreFailed failed) | inr kept ↦ kept.0 ] in
      let step = does-steps c s (changing change) stands (Ok reply) calls p (no_stops c s (changing change) calls held) does in
      (step.0, step_of_done s step.0 direction number reply calls p step.1, step.2)

  all_step : (old new : H) (c : Contents) (s : State) (answers : List Answer) (calls : List Call) (p : Printed) → Stands c s → TellAll c calls → AllByRecursion IsDone answers
      → AttemptsAll goes old new (replicate (length answers) (Changes (move_through direction number))) answers calls p
      → (t : State) × StepsAgain s change answers t × Stands (left_by_all c calls) t
  all_step old new c s [] calls p stands tells are done = (s, refl, subst (λ made. Stands (left_by_all c made) s) (sym done.1) stands)
  all_step old new c s (answer ∷ answers) calls p stands tells are (mid, now, later, first, rest, whole, both, tried, tried_later) =
      let told : TellAll c (now ++ later) = subst (TellAll c) whole tells in
      let does : Does c (changing change) (Ok are.0.0) now first =
      subst (λ a. Does c (changing change) a now first) are.0.1
      (subst (λ a. Does c (changing a) answer now first) (asked_through direction number) (tried.2 c (TellAll-prefix c now later told))) in
      let one = steps_by_one c s are.0.0 now first stands does in
      let others = all_step mid new (left_by_all c now) one.0 answers later rest one.2 (TellAll-rest c now later told) are.1 tried_later in
      let left : left_by_all (left_by_all c now) later ≡ left_by_all c calls = sym (ap (left_by_all c) whole ∙ left_by_all-append c now later) in (
        others.0,
        (one.0, subst (λ a. IsChangeStep s change a one.0) (sym are.0.1) one.1, others.1),
        subst (λ d. Stands d others.0) left others.2,
      )

-- ---- on a home

-- from contents that stand for a state, the home tells contents that stand for the state to which the moves lead
abbrev pub Reaches : Direction → ℕ → Option Contents → Option Contents → Type 0
Reaches direction number known known_new =
    IfSome known (λ c. (s t : State) → Stands c s → IsThrough direction number s t → IsSomeAnd known_new (λ d. Stands d t))

module _ {H : Type 0} (goes : H → Call → H → Type 0) (direction : Direction) (number : ℕ) (old new : H) (answers : List Answer) (calls : List Call) (p : Printed)
    (are : AllByRecursion IsDone answers) (lead : LeadThrough direction number None answers)
    (done : AttemptsAll goes old new (replicate (length answers) (Changes (move_through direction number))) answers calls p) where
  reached_told : (known known_new : Option Contents) → Follows known calls known_new → Reaches direction number known known_new
  reached_told None known_new follow = tt
  reached_told (Some c) known_new follow = λ s t stands through.
      let steps = all_step goes direction number old new c s answers calls p stands follow.0 are done in
      let there = (moves_lead_there c direction number s steps.0 answers stands steps.1 lead).moved t through in
      subst (λ o. IsSomeAnd o (λ d. Stands d t)) (sym follow.1) (subst (Stands (left_by_all c calls)) there.1 steps.2)

-- the answers end with the one that is told
pub last_told : (answers : List Answer) (answer : Answer) → Some answer ≡ slice_get (reverse answers) 0 → (earlier : List Answer) × (answers ≡ earlier ++ answer ∷ [])
last_told answers answer told = split (reverse answers) refl told where
  split : (back : List Answer) → reverse answers ≡ back → Some answer ≡ slice_get back 0 → (earlier : List Answer) × (answers ≡ earlier ++ answer ∷ [])
  split [] is told = let e = told in cc
  split (last ∷ others) is told =
      let same : answer ≡ last = cc in
      (reverse others, sym (reverse-reverse answers) ∙ ap reverse is ∙ reverse-append (last ∷ []) others ∙ ap (λ (a : Answer). reverse others ++ a ∷ []) (sym same))

module _ {H : Type 0} (goes : H → Call → H → Type 0) (contents : H → Option Contents)
    (follows : (one other : H) (call : Call) → goes one call other → IfSome (contents one) (λ c. TellsOf c call × (contents other ≡ Some (left_by c call)))) where
  pub ended-reaches : (direction : Direction) (number : ℕ) (old new : H) (ended : Through) → GoesThrough goes direction number old new ended
      → IfOk ended.answer (λ reply. Reaches direction number (contents old) (contents new))
  ended-reaches direction number old new ended (answers, ends, calls, p, silent, done) = of_answer ended.answer refl where
    follow : Follows (contents old) calls (contents new)
    follow = contents_follow goes contents follows old new calls (AttemptsAll-went goes old new (moves_through direction number answers) answers calls p done)

    of_answer : (answer : Answer) → ended.answer ≡ answer → IfOk answer (λ reply. Reaches direction number (contents old) (contents new))
    of_answer (Err fault) is = tt
    of_answer (Ok reply) is =
        let (earlier, whole) = last_told answers ended.answer ends.answer in
        let are : AllByRecursion IsDone answers =
        subst (AllByRecursion IsDone) (sym whole) (all_done direction number None earlier ended.answer (reply, is) (subst (LeadThrough direction number None) whole ends.lead)) in
        reached_told goes direction number old new answers calls p are ends.lead done (contents old) (contents new) follow
