-- Dry runs of moves through the edit of a number: the previews so far, and the machine's steps.
use Rattle.std.proofs.Common.{◌≡◌, ◌∙◌, inl, inr, ℕ, ◌≤◌, true, false, Option, Some, None, List, [], ◌∷◌, ◌++◌, Result, Ok, Err, ap, sym, subst, refl, arith}
use Rattle.std.specs.Prelude.{IfOk, IfSome}
use Rattle.std.specs.List.{AllByRecursion}
use Rattle.std.specs.Option.{option_or}
use Rattle.rec_text.specs.declared.fault.Fault.{Fault}
use Rattle.rec_text.specs.declared.fault.Fault.TheVariants.{OutOfMemory, StoreFailed}
use Rattle.rec_text.proofs.lemmas.FaultLemmas.{no_both}
use Rattle.rec_journal.specs.declared.patch.Direction.{Direction}
use Rattle.rec_diff.specs.declared.style.DiffStyle.{DiffStyle}
use Rattle.rec_select.specs.Taken.{PrintsAndCounts}
use Rattle.rec_tools.specs.declared.home.Which.TheVariants.{Base as TheFile, Journal as TheJournal}
use Rattle.rec_tools.specs.declared.decision.Decision.{Decision}
use Rattle.rec_tools.specs.declared.request.Reply.{Reply}
use Rattle.rec_tools.specs.declared.through.Through.{Through}
use Rattle.rec_tools.specs.Home.{Contents, Call, left_by, left_by_all, TellsOf, TellAll, written}
use Rattle.rec_tools.specs.Printouts.{Printed, WentOut, IsBoth, PutsPrintout}
use Rattle.rec_tools.specs.Requests.{change_of, as_diff}
use Rattle.rec_tools.specs.Asked.{AskedChange, moving, Asked, previewing}
use Rattle.rec_tools.specs.Outcomes.{Outcome, IsChangeOutcome, IsRequestOutcome, outcome_of, reply_in}
use Rattle.rec_tools.specs.Attempts.{Answer, AreRead, Does, gots}
use Rattle.rec_tools.specs.Machine.{IsChangeStep, IsMachineStep}
use Rattle.rec_tools.specs.Stands.{Stands}
use Rattle.rec_tools.specs.States.{State}
use Rattle.rec_tools.specs.Through.{move_through, moved_by, leads_on, LeadThrough, EndsThrough, StepsAgain, IsThrough, answers_of, WouldLeave, PreviewsAgain, PreviewsRead, PreviewsThrough}
use Rattle.rec_tools.specs.Through.{PreviewSteps}
use Rattle.rec_tools.specs.proving.Courses.{contents, IsPreviewed}
use Rattle.rec_tools.specs.proving.Moving.{IsDryMove, GoesDry}
use Rattle.rec_tools.specs.proving.Silently.{ByCalls}
use Rattle.rec_tools.proofs.lemmas.calls.CallLemmas.{Follows, contents_follow}
use Rattle.rec_tools.proofs.lemmas.calls.ExitLemmas.{silence, went_silently, both_got, does-both}
use Rattle.rec_tools.proofs.lemmas.machine.StepLemmas.{changes_are_steps, outcomes_are_steps}
use Rattle.rec_tools.proofs.lemmas.runs.PreviewLemmas.{previewed-outcome}
use Rattle.rec_tools.proofs.lemmas.runs.RunLemmas.{left-stopped}
use Rattle.rec_tools.proofs.lemmas.runs.RunAllLemmas.{both, both-is, IsBoth-silence_first, IsBoth-regrouped, went_out-both, are_both}
use Rattle.rec_tools.proofs.lemmas.runs.ThroughLemmas.{HaveLed, none_led, led_more, led_ended}
use Rattle.rec_tools.proofs.lemmas.runs.LeadingLemmas.{moves_lead_there}
use Rattle.rec_tools.proofs.lemmas.runs.ReachedLemmas.{IsDone, all_done, asked_through, last_told}

-- ---- one preview

module _ {S : Type 0} (told : S → Option (List ℕ)) (failures : S → ℕ) (style : DiffStyle) (change : AskedChange) (file journal f j : List ℕ) (out now : S)
    (same : f ≡ file) (same_too : j ≡ journal) where
  -- it was answered so, and would leave these
  previewed_so : (d : Contents) (answer : Answer) → PrintsAndCounts told failures out now (PutsPrintout (IsPreviewed style f j change)) answer
      → IfOk answer (λ reply. WouldLeave (contents file journal) change reply d) → IsDryMove told failures style change (contents file journal) d out now answer
  previewed_so d answer wrote leaves =
      let (p, went_out, done) = does-both told failures (previewing (as_diff style) change) (λ f j. IsPreviewed style f j change) refl (previewed-outcome style change)
      out now file journal f j answer same same_too wrote in
      (p, went_out, omega (arith, wrote.counted, went_out.1, went_out.2), done, leaves)

  pub dry-refused : (d : Contents) (fault : Fault) → PrintsAndCounts told failures out now (PutsPrintout (IsPreviewed style f j change)) (Err fault)
      → IsDryMove told failures style change (contents file journal) d out now (Err fault)
  dry-refused d fault wrote = previewed_so d (Err fault) wrote tt

  pub dry-left : (d : Contents) (decision : Decision) (reply : Reply) → reply ≡ reply_in decision → d ≡ written (contents file journal) (outcome_of decision).writes
      → IsChangeOutcome (contents f j) change (Ok (outcome_of decision))
      → PrintsAndCounts told failures out now (PutsPrintout (IsPreviewed style f j change)) (Ok (reply_in decision))
      → IsDryMove told failures style change (contents file journal) d out now (Ok reply)
  dry-left d decision reply e left is wrote = previewed_so d (Ok reply)
      (subst (λ r. PrintsAndCounts told failures out now (PutsPrintout (IsPreviewed style f j change)) (Ok r)) (sym e) wrote)
      (outcome_of decision, on, e, left)
    where
      on : IsChangeOutcome (contents file journal) change (Ok (outcome_of decision))
      on = subst (λ b. IsChangeOutcome (contents file b) change (Ok (outcome_of decision))) same_too
          (subst (λ b. IsChangeOutcome (contents b j) change (Ok (outcome_of decision))) same is)

-- ---- one preview more

PreviewsAgain-counted : (style : DiffStyle) (change : AskedChange) (c : Contents) (answers : List Answer) (p : Printed) (last : Contents) → PreviewsAgain style change c answers p last
    → p.before ≤ p.after
PreviewsAgain-counted style change c [] p last done = omega (arith, done.0.1)
PreviewsAgain-counted style change c (answer ∷ answers) p last (d, first, rest, parts, does, leaves, done) =
    let le = PreviewsAgain-counted style change d answers rest last done in
    omega (arith, le, parts.1, parts.2, parts.3, parts.4)

PreviewsAgain-more : (style : DiffStyle) (change : AskedChange) (c mid last : Contents) (answers : List Answer) (answer : Answer) (p so_far next : Printed)
    → IsBoth p so_far next → next.before ≤ next.after → PreviewsAgain style change c answers so_far mid
    → Does mid (previewing (as_diff style) change) answer (gots mid (TheFile ∷ TheJournal ∷ [])) next → IfOk answer (λ reply. WouldLeave mid change reply last)
    → PreviewsAgain style change c (answers ++ answer ∷ []) p last
PreviewsAgain-more style change c mid last [] answer p so_far next parts le (nothing, here) does leaves = (
  last,
  next,
  silence next.after,
  IsBoth-silence_first p so_far next parts nothing le,
  subst (λ x. Does x (previewing (as_diff style) change) answer (gots x (TheFile ∷ TheJournal ∷ [])) next) here does,
  subst (λ x. IfOk answer (λ reply. WouldLeave x change reply last)) here leaves,
  ((refl, refl), refl),
)
PreviewsAgain-more style change c mid last (a ∷ answers) answer p so_far next parts le (d, first, rest, first_parts, does_first, leaves_first, done) does leaves =
    let counted : rest.before ≤ rest.after = PreviewsAgain-counted style change d answers rest mid done in
    let meet : next.before ≡ rest.after = parts.2 ∙ sym first_parts.3 in (
      d,
      first,
      both rest next,
      IsBoth-regrouped p so_far next first rest parts first_parts,
      does_first,
      leaves_first,
      PreviewsAgain-more style change d mid last answers answer (both rest next) rest next (both-is rest next counted meet) le done does leaves,
    )

-- ---- on a sink

module _ {S : Type 0} (told : S → Option (List ℕ)) (failures : S → ℕ) (style : DiffStyle) (direction : Direction) (number : ℕ) where
  abbrev the_move : AskedChange
  the_move = change_of (move_through direction number)

  -- moves were previewed, and each led on
  pub record DrySoFar (c mid : Contents) (out now : S) (first last : Option ℕ) : Type 0 where
    pub answers : List Answer
    pub led : HaveLed direction number answers first last
    pub p : Printed
    pub went_out : WentOut told failures out now p
    pub done : PreviewsAgain style the_move c answers p mid

  pub none_dry : (c : Contents) (out : S) → DrySoFar c c out out None None
  none_dry c out = record {
    answers = [];
    led = none_led direction number;
    p = silence (failures out);
    went_out = went_silently told failures out;
    done = ((refl, refl), refl);
  }

  module _ (c here next : Contents) (out mid now : S) (first last moved : Option ℕ) (answer : Answer) (so_far : DrySoFar c here out mid first last) (is : moved ≡ moved_by answer)
      (tried : IsDryMove told failures style the_move here next mid now answer) where
    first_counted : failures out ≤ failures mid
    first_counted = omega (arith, PreviewsAgain-counted style the_move c so_far.answers so_far.p here so_far.done, so_far.went_out.1, so_far.went_out.2)

    then_counted : failures mid ≤ failures now
    then_counted = omega (arith, tried.2, tried.1.1, tried.1.2)

    went_both : WentOut told failures out now (both so_far.p tried.0)
    went_both = went_out-both told failures out mid now first_counted then_counted so_far.p tried.0 so_far.went_out tried.1

    done_more : PreviewsAgain style the_move c (so_far.answers ++ answer ∷ []) (both so_far.p tried.0) next
    done_more = PreviewsAgain-more style the_move c here next so_far.answers answer (both so_far.p tried.0) so_far.p tried.0
        (are_both told failures out mid now first_counted then_counted so_far.p tried.0 so_far.went_out tried.1) tried.2 so_far.done tried.3 tried.4

    pub dry_led : leads_on direction number last moved ≡ true → DrySoFar c next out now (option_or first moved) (option_or moved last)
    dry_led leads = record {
      answers = so_far.answers ++ answer ∷ [];
      led = led_more direction number so_far.answers first last moved answer so_far.led is leads;
      p = both so_far.p tried.0;
      went_out = went_both;
      done = done_more;
    }

    pub dry_ended : leads_on direction number last moved ≡ false
        → GoesDry told failures style direction number c next out now (record { first = option_or first moved; last = option_or moved last; answer = answer })
    dry_ended ends = (
      so_far.answers ++ answer ∷ [],
      led_ended direction number so_far.answers first last moved answer so_far.led is ends,
      both so_far.p tried.0,
      went_both,
      done_more,
    )

-- ---- the machine

-- a preview that isn't refused has an outcome, and that was printed
previewed_whole : (c : Contents) (asked : Asked) (reply : Reply) (calls : List Call) (p : Printed) → Does c asked (Ok reply) calls p
    → (o : Outcome) × IsRequestOutcome c asked (Ok o) × (◌≡◌ {A = Answer} (Ok reply) (Ok o.reply)) × (p.text ≡ o.text)
previewed_whole c asked reply calls p (inl done) = absurd (no_both reply done.fault done.answered)
previewed_whole c asked reply calls p (inr (inl done)) = absurd (no_both reply OutOfMemory done.answered)
previewed_whole c asked reply calls p (inr (inr (inl done))) = absurd (no_both reply done.fault done.answered)
previewed_whole c asked reply calls p (inr (inr (inr (inl done)))) = absurd (no_both reply StoreFailed done.answered)
previewed_whole c asked reply calls p (inr (inr (inr (inr done)))) =
    elim done.answered [
      | inl put ↦ (done.o, done.outcome, put.0, done.printed)
      | inr stopped ↦ absurd (no_both reply StoreFailed stopped.0)
    ]

module _ (style : DiffStyle) (direction : Direction) (number : ℕ) where
  abbrev moves : AskedChange
  moves = moving direction (Some number)

  -- the preview of a move that isn't refused, and the move
  one_step : (c d : Contents) (s : State) (reply : Reply) (calls : List Call) (p : Printed) → Stands c s → Does c (previewing (as_diff style) moves) (Ok reply) calls p → WouldLeave c moves reply d
      → (mid : State) × IsMachineStep s (previewing (as_diff style) moves) (Ok reply) p.text s × IsChangeStep s moves (Ok reply) mid × Stands d mid
  one_step c d s reply calls p stands does (would, is, e, left) =
      let (o, outcome, same, printed) = previewed_whole c (previewing (as_diff style) moves) reply calls p does in
      let (t, (next, step, diff, stays), stood) = outcomes_are_steps c s (previewing (as_diff style) moves) (Ok o) stands outcome in
      let (mid, moved, stands_then) = changes_are_steps c s moves (Ok would) stands is in (
        mid,
        subst (λ a. IsMachineStep s (previewing (as_diff style) moves) a p.text s) (sym same)
            (subst (λ text. IsMachineStep s (previewing (as_diff style) moves) (Ok o.reply) text s) (sym printed) (next, step, diff, refl)),
        subst (λ r. IsChangeStep s moves (Ok r) mid) (sym e) moved.0,
        subst (λ x. Stands x mid) (sym left) stands_then,
      )

  all_steps : (c last : Contents) (s : State) (answers : List Answer) (p : Printed) → Stands c s → AllByRecursion IsDone answers → PreviewsAgain style moves c answers p last
      → (t : State) × PreviewSteps style s moves answers p.text t
  all_steps c last s [] p stands are done = (s, (done.0.0, refl))
  all_steps c last s (answer ∷ answers) p stands (is, are) (d, first, rest, parts, does, leaves, done) =
      let does_so : Does c (previewing (as_diff style) moves) (Ok is.0) (gots c (TheFile ∷ TheJournal ∷ [])) first =
      subst (λ a. Does c (previewing (as_diff style) moves) a (gots c (TheFile ∷ TheJournal ∷ [])) first) is.1 does in
      let leaves_so : WouldLeave c moves is.0 d = subst (λ a. IfOk a (λ reply. WouldLeave c moves reply d)) is.1 leaves in
      let (mid, shown, moved, stands_then) = one_step c d s is.0 (gots c (TheFile ∷ TheJournal ∷ [])) first stands does_so leaves_so in
      let (t, others) = all_steps d last mid answers rest stands_then are done in (
        t,
        (
          mid,
          first.text,
          rest.text,
          parts.0,
          subst (λ a. IsMachineStep s (previewing (as_diff style) moves) a first.text s) (sym is.1) shown,
          subst (λ a. IsChangeStep s moves a mid) (sym is.1) moved,
          others,
        ),
      )

  steps_alone : (s t : State) (answers : List Answer) (printed : List ℕ) → PreviewSteps style s moves answers printed t → StepsAgain s moves answers t
  steps_alone s t [] printed steps = steps.1
  steps_alone s t (answer ∷ answers) printed (mid, first, rest, e, shown, moved, steps) = (mid, moved, steps_alone mid t answers rest steps)

  -- the steps to that edit, where it lies that way
  all_there : (c last : Contents) (s t : State) (answers : List Answer) (p : Printed) → Stands c s → (through : IsThrough direction number s t)
      → LeadThrough direction number None answers → AllByRecursion IsDone answers → PreviewsAgain style moves c answers p last
      → PreviewSteps style s moves (answers_of direction (through.nearer ++ through.entry ∷ [])) p.text t
  all_there c last s t answers p stands through lead are done =
      let (u, steps) = all_steps c last s answers p stands are done in
      let there = (moves_lead_there c direction number s u answers stands (steps_alone s u answers p.text steps) lead).moved t through in
      subst (λ list. PreviewSteps style s moves list p.text t) there.0 (subst (PreviewSteps style s moves answers p.text) there.1 steps)

-- ---- on a home and a sink

-- reads leave the contents as they are
AreRead-left : (c : Contents) (read : Result (List ℕ × List ℕ) Fault) (calls : List Call) → AreRead read calls → left_by_all c calls ≡ c
AreRead-left c (Ok pair) calls e = subst (λ made. left_by_all c made ≡ c) (sym e) refl
AreRead-left c (Err fault) calls stops = left-stopped c (TheFile ∷ TheJournal ∷ []) calls fault stops

-- what was done by a home and a sink in a dry run
abbrev pub RanDry : {H S : Type 0} → (H → Call → H → Type 0) → (S → Option (List ℕ)) → (S → ℕ) → DiffStyle → Direction → ℕ → H → H → S → S → Through → Type 0
RanDry goes told failures style direction number old new out now ended =
    (answers : List Answer) × EndsThrough direction number answers ended × (p : Printed) × WentOut told failures out now p
    × PreviewsThrough goes old new style direction number answers p

module _ {H S : Type 0} (goes : H → Call → H → Type 0) (told : S → Option (List ℕ)) (failures : S → ℕ) (style : DiffStyle) (direction : Direction) (number : ℕ) (old new : H) where
  pub ran_dry : (out now : S) (ended : Through) (file journal : List ℕ) (last : Contents) → ByCalls goes old new (AreRead (Ok (file, journal)))
      → GoesDry told failures style direction number (contents file journal) last out now ended
      → RanDry goes told failures style direction number old new out now ended
  ran_dry out now ended file journal last read (answers, ends, p, went_out, done) =
      (answers, ends, p, went_out, (Ok (file, journal), read.0, read.1, read.2, (last, done)))

  -- nothing could be read
  pub unread_dry : (out : S) (fault : Fault) → ByCalls goes old new (AreRead (Err fault))
      → RanDry goes told failures style direction number old new out out (record { first = None; last = None; answer = Err fault })
  unread_dry out fault read = (
    Err fault ∷ [],
    record { lead = refl; first = refl; last = refl; answer = refl },
    silence (failures out),
    went_silently told failures out,
    (Err fault, read.0, read.1, read.2, (refl, (refl, refl))),
  )

  module _ (told_of : H → Option Contents)
      (follows : (one other : H) (call : Call) → goes one call other → IfSome (told_of one) (λ c. TellsOf c call × (told_of other ≡ Some (left_by c call)))) where
    looks_so : (known known_new : Option Contents) (read : Result (List ℕ × List ℕ) Fault) (calls : List Call) → AreRead read calls → Follows known calls known_new
        → IfSome known (λ c. known_new ≡ Some c)
    looks_so None known_new read calls are follow = tt
    looks_so (Some c) known_new read calls are follow = follow.1 ∙ ap Some (AreRead-left c read calls are)

    pub dry-looks : (read : Result (List ℕ × List ℕ) Fault) → ByCalls goes old new (AreRead read) → IfSome (told_of old) (λ c. told_of new ≡ Some c)
    dry-looks read (calls, went, are) = looks_so (told_of old) (told_of new) read calls are (contents_follow goes told_of follows old new calls went)

    abbrev Previewed : S → S → Option Contents → Type 0
    Previewed out now known = IfSome known (λ c. (s t : State) → Stands c s → (through : IsThrough direction number s t)
        → (p : Printed) × WentOut told failures out now p
        × PreviewSteps style s (moving direction (Some number)) (answers_of direction (through.nearer ++ through.entry ∷ [])) p.text t)

    module _ (out now : S) (answers : List Answer) (p : Printed) (went_out : WentOut told failures out now p) (lead : LeadThrough direction number None answers)
        (are : AllByRecursion IsDone answers) (calls : List Call) where
      previewed_told : (known known_new : Option Contents) (read : Result (List ℕ × List ℕ) Fault) → AreRead read calls → Follows known calls known_new
          → PreviewsRead style (change_of (move_through direction number)) read answers p → Previewed out now known
      previewed_told None known_new read reads follow previews = tt
      previewed_told (Some c) known_new (Err fault) reads follow (refused, silent) =
          let done : IsDone (Err fault) = (subst (AllByRecursion IsDone) refused are).0 in
          absurd (no_both done.0 fault (sym done.1))
      previewed_told (Some c) known_new (Ok (file, journal)) reads follow (last, previews) =
          let same : contents file journal ≡ c = both_got file journal [] c (subst (TellAll c) reads follow.0) in
          let here : PreviewsAgain style (moving direction (Some number)) c answers p last =
          subst (λ a. PreviewsAgain style a c answers p last) (asked_through direction number)
          (subst (λ d. PreviewsAgain style (change_of (move_through direction number)) d answers p last) same previews) in
          λ s t stands through. (p, went_out, all_there style direction number c last s t answers p stands through lead are here)

    pub dry-previewed : (out now : S) (ended : Through) → RanDry goes told failures style direction number old new out now ended
        → IfOk ended.answer (λ reply. Previewed out now (told_of old))
    dry-previewed out now ended (answers, ends, p, went_out, (read, calls, went, reads, previews)) = of_answer ended.answer refl where
      of_answer : (answer : Answer) → ended.answer ≡ answer → IfOk answer (λ reply. Previewed out now (told_of old))
      of_answer (Err fault) is = tt
      of_answer (Ok reply) is =
          let (earlier, whole) = last_told answers ended.answer ends.answer in
          let are : AllByRecursion IsDone answers =
          subst (AllByRecursion IsDone) (sym whole) (all_done direction number None earlier ended.answer (reply, is) (subst (LeadThrough direction number None) whole ends.lead)) in
          previewed_told out now answers p went_out ends.lead are calls (told_of old) (told_of new) read reads (contents_follow goes told_of follows old new calls went) previews
