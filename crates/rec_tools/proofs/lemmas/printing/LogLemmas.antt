-- What edits made, as it is printed: there is one text, and it goes out edit by edit.
use Rattle.std.proofs.Common.{◌≡◌, inl, inr, ℕ, ◌+◌, ◌<◌, List, [], ◌∷◌, ◌++◌, length, map, reverse, Option, Some, None, Result, Ok, Err, arith, ap, ap₂, sym, subst, refl, ◌∙◌, append_assoc}
use Rattle.std.specs.List.{AllByRecursion}
use Rattle.std.specs.Io.KnownBytes.{Appends}
use Rattle.std.proofs.KnownBytes.{Appends-nil, Appends-kept}
use Rattle.rec_text.specs.declared.fault.Fault.{Fault}
use Rattle.rec_text.specs.declared.fault.Fault.TheVariants.{OutOfMemory, StoreFailed}
use Rattle.rec_text.specs.Sink.{AppendsPrefix}
use Rattle.rec_journal.specs.declared.event.EditStep.{EditStep}
use Rattle.rec_journal.specs.declared.event.Revision.{Revision}
use Rattle.rec_journal.specs.declared.patch.Direction.{Direction}
use Rattle.rec_journal.specs.declared.patch.Direction.TheVariants.{Forward, Backward}
use Rattle.rec_journal.specs.EditTexts.{WithTexts, WalkAt, GoOn, GoesOver, AreTextsOn, AreEditTexts, IsEditTexts, IsWalk, IsAtFirst, with_texts}
use Rattle.rec_journal.specs.History.{Opened}
use Rattle.rec_journal.specs.Revisions.{Leads}
use Rattle.rec_select.specs.Taken.{HasTaken, HasStopped, Prints, PrintsAndCounts, Puts}
use Rattle.rec_diff.specs.declared.style.DiffStyle.{DiffStyle}
use Rattle.rec_diff.proofs.lemmas.DiffLemmas.{one_diff, some_diff}
use Rattle.rec_tools.specs.Printouts.{Told, told_of, IsLog, step_line, word_of}
use Rattle.rec_tools.specs.proving.Logs.{HasSteps, HaveSteps, IsLogged, left_over}
use Rattle.rec_select.proofs.lemmas.info.InfoLemmas.{IsTakenTo, IsTakenTo-more, IsTakenTo-stopped, IsTakenTo-all}
use Rattle.rec_text.proofs.lemmas.FaultLemmas.{ok_is_no_err, same_fault}
use Rattle.rec_text.proofs.lemmas.ListLemmas.{AllByRecursion-append}
use Rattle.rec_journal.proofs.lemmas.plans.ReplayLemmas.{AllByRecursion-reverse}
use Rattle.rec_tools.specs.Asked.{Telling}
use Rattle.rec_tools.specs.Requests.{as_diff}

-- ---- there is one log

-- of an edit one text is printed
abbrev pub TellsOne : Telling → Type 0
TellsOne Tells = (direction : Direction) (steps : List EditStep) (here there one other : List ℕ)
    → Tells direction steps here there one → Tells direction steps here there other → one ≡ other

pub one_as_diff : (style : DiffStyle) → TellsOne (as_diff style)
one_as_diff style direction steps here there one other is is_too = one_diff direction style steps here there one other is is_too

pub one_log : (Tells : Telling) → TellsOne Tells → (edits : List Told) (one other : List ℕ) → IsLog Tells edits one → IsLog Tells edits other → one ≡ other
one_log Tells tells [] one other is is_too = is ∙ sym is_too
one_log Tells tells (e ∷ edits) one other (diff, rest, is, log, joined) (also, others, is_too, log_too, joined_too) =
    joined
    ∙ ap₂ (λ d r. step_line (word_of e.done) (e.number, e.tool) ++ (d ++ r)) (tells Forward e.steps e.before e.after diff also is is_too)
    (one_log Tells tells edits rest others log log_too)
    ∙ sym joined_too

-- ---- the edits have their steps

with_texts-steps : (direction : Direction) (e : Revision) (here there : List ℕ) → Leads direction e here there → HasSteps (with_texts direction e here there)
with_texts-steps Backward e here there leads = leads.leads
with_texts-steps Forward e here there leads = leads.leads

pub texts-steps : (number : Option ℕ) (file : List ℕ) (o : Opened) (made : WithTexts) → IsEditTexts o file number (Ok made) → HasSteps made
texts-steps number file o made (settled, way, is_way, at) =
    subst HasSteps (sym at.is) (with_texts-steps way.direction way.edit at.here at.there at.leads)

all_steps : (direction : Direction) (es : List Revision) (here : List ℕ) (all : List WithTexts) → AreTextsOn direction es here all → AllByRecursion HasSteps all
all_steps direction [] here all are = subst (AllByRecursion HasSteps) (sym are) tt
all_steps direction (e ∷ es) here all (there, others, leads, is, are) =
    subst (AllByRecursion HasSteps) (sym is) (with_texts-steps direction e here there leads, all_steps direction es there others are)

pub texts_have_steps : (o : Opened) (file : List ℕ) (all : List WithTexts) → AreEditTexts o file all → AllByRecursion HasSteps all
texts_have_steps o file all (done, undone, is, back, forth) =
    subst (AllByRecursion HasSteps) (sym is)
    (AllByRecursion-append HasSteps (reverse done) undone (AllByRecursion-reverse HasSteps done (all_steps Backward o.past file done back)) (all_steps Forward o.future file undone forth))

pub walk_has_steps : (o : Opened) (file : List ℕ) (walk : Option WalkAt) → IsWalk o file (Ok walk) → HaveSteps walk
walk_has_steps o file walk (settled, all, are, goes) = (all, goes, texts_have_steps o file all are)

-- ---- so there is a log

pub some_log : (style : DiffStyle) (all : List WithTexts) → AllByRecursion HasSteps all → (text : List ℕ) × IsLog (as_diff style) (map told_of all) text
some_log style [] steps = ([], refl)
some_log style (made ∷ all) steps =
    let diff = some_diff Forward style made.edit.steps made.before made.after steps.0 in
    let rest = some_log style all steps.1 in
    (_, (diff.0, rest.0, diff.1, rest.1, refl))

-- ---- what goes out

prefix_of : (old new : Option (List ℕ)) (one other : List ℕ) → one ≡ other → AppendsPrefix old new one → AppendsPrefix old new other
prefix_of old new one other same put = subst (AppendsPrefix old new) same put

-- of a call that prints one of some texts, of which there is one, that text goes out
module _ {S X : Type 0} (contents : S → Option (List ℕ)) (failures : S → ℕ) (old new : S) (IsText : Result (List ℕ) Fault → Type 0)
    (one : (text other : List ℕ) → IsText (Ok text) → IsText (Ok other) → text ≡ other) (none : (fault : Fault) → IsText (Err fault) → ⊥) where
  pub prints_the : (result : Result X Fault) → PrintsAndCounts contents failures old new (Puts IsText) result → (text : List ℕ) → IsText (Ok text)
      → Prints contents failures old new text result
  prints_the (Ok done) h text is = record {
    whole = subst (λ t. Appends (contents old) (contents new) t) (one h.printed.0 text h.printed.1 is) h.printed.2;
    sound = elim h.told [ inl e ↦ ok_is_no_err done StoreFailed _ (sym e) | inr kept ↦ kept ];
  }
  prints_the (Err OutOfMemory) h text is = record {
    prefix = elim h.printed [
      | inl kept ↦ (0, omega arith, Appends-kept (contents old) (contents old) (contents new) [] (Appends-nil (contents old)) kept)
      | inr put ↦ prefix_of (contents old) (contents new) put.0 text (one put.0 text put.1 is) put.2
    ];
    counted = h.counted;
    cause = inl (refl, elim h.told [ inl e ↦ (let f = same_fault _ _ e in cc) | inr kept ↦ kept ]);
  }
  prints_the (Err StoreFailed) h text is = record {
    prefix = prefix_of (contents old) (contents new) h.printed.0 text (one h.printed.0 text h.printed.1 is) h.printed.2;
    counted = h.counted;
    cause = inr (refl, h.store_failed refl);
  }
  prints_the (Err fault) h text is = absurd (none fault h.printed.0)

-- ---- edit by edit

-- of each log of the edits of a walk, what is left is that of another walk
abbrev pub IsPrintedTo : {S : Type 0} → (S → Option (List ℕ)) → (S → ℕ) → S → S → DiffStyle → Option WalkAt → Option WalkAt → Type 0
IsPrintedTo contents failures old new style start walk = (all : List WithTexts) (text : List ℕ) → GoesOver start all → IsLog (as_diff style) (map told_of all) text
    → (left : List WithTexts) × (rest : List ℕ) × GoesOver walk left × IsLog (as_diff style) (map told_of left) rest × IsTakenTo contents failures old new text rest

-- a log of some edits, of which the first is known
record BeginsWith (style : DiffStyle) (made : WithTexts) (others : List WithTexts) (text : List ℕ) : Type 0 where
  first : List ℕ
  rest : List ℕ
  is_first : IsLogged style made first
  is_rest : IsLog (as_diff style) (map told_of others) rest
  parts : text ≡ first ++ rest

log_parts : (style : DiffStyle) (made : WithTexts) (others : List WithTexts) (text : List ℕ) → IsLog (as_diff style) (map told_of (made ∷ others)) text → BeginsWith style made others text
log_parts style made others text (diff, rest, is, log, e) =
    let line = step_line (word_of made.done) (made.edit.number, made.edit.tool) in
    record { first = line ++ diff; rest = rest; is_first = (diff, is, refl); is_rest = log; parts = e ∙ sym (append_assoc line diff rest) }

module _ {S : Type 0} {contents : S → Option (List ℕ)} {failures : S → ℕ} where
  -- memory ran out after what was taken
  stopped_after : {text rest : List ℕ} {old new : S} (fault : Fault) → fault ≡ OutOfMemory → IsTakenTo contents failures old new text rest
      → HasStopped contents failures old new text fault
  stopped_after {new = new} fault e so_far =
      IsTakenTo-stopped [] _ so_far refl (record { prefix = (0, omega arith, Appends-nil (contents new)); counted = omega arith; cause = inl (e, refl) })

  module _ {old mid : S} (style : DiffStyle) (start : Option WalkAt) (walk : WalkAt) (so_far : IsPrintedTo contents failures old mid style start (Some walk)) where
    -- the log of each edit from here on
    here : (all : List WithTexts) (text : List ℕ) → GoesOver start all → IsLog (as_diff style) (map told_of all) text
        → (others : List WithTexts) × (now : List ℕ) × GoOn walk.left walk.at.after others × BeginsWith style walk.at others now × IsTakenTo contents failures old mid text now
    here all text goes log =
        let (left, now, (others, is, on), log_now, taken) = so_far all text goes log in
        (others, now, on, log_parts style walk.at others now (subst (λ es. IsLog (as_diff style) (map told_of es) now) is log_now), taken)

    module _ {new : S} where
      pub line-stopped : (all : List WithTexts) (text : List ℕ) → GoesOver start all → IsLog (as_diff style) (map told_of all) text → (fault : Fault)
          → ((first : List ℕ) → IsLogged style walk.at first → HasStopped contents failures mid new first fault) → HasStopped contents failures old new text fault
      line-stopped all text goes log fault stopped =
          let (others, now, on, begins, taken) = here all text goes log in
          IsTakenTo-stopped begins.first begins.rest taken begins.parts (stopped begins.first begins.is_first)

      line-taken : ((first : List ℕ) → IsLogged style walk.at first → HasTaken contents failures mid new first)
          → (all : List WithTexts) (text : List ℕ) → GoesOver start all → IsLog (as_diff style) (map told_of all) text
          → (others : List WithTexts) × (rest : List ℕ) × GoOn walk.left walk.at.after others × IsLog (as_diff style) (map told_of others) rest × IsTakenTo contents failures old new text rest
      line-taken printed all text goes log =
          let (others, now, on, begins, taken) = here all text goes log in
          (others, begins.rest, on, begins.is_rest, IsTakenTo-more begins.first begins.rest taken begins.parts (printed begins.first begins.is_first))

      pub line-printed : (next : Option WalkAt) → ((others : List WithTexts) → GoOn walk.left walk.at.after others → GoesOver next others)
          → ((first : List ℕ) → IsLogged style walk.at first → HasTaken contents failures mid new first) → IsPrintedTo contents failures old new style start next
      line-printed next goes_on printed all text goes log =
          let (others, rest, on, log_rest, taken) = line-taken printed all text goes log in
          (others, rest, goes_on others on, log_rest, taken)

      pub next-stopped : (fault : Fault) → fault ≡ OutOfMemory → ((first : List ℕ) → IsLogged style walk.at first → HasTaken contents failures mid new first)
          → (all : List WithTexts) (text : List ℕ) → GoesOver start all → IsLog (as_diff style) (map told_of all) text → HasStopped contents failures old new text fault
      next-stopped fault e printed all text goes log =
          let (others, rest, on, log_rest, taken) = line-taken printed all text goes log in
          stopped_after fault e taken

  pub all_printed : {old new : S} (style : DiffStyle) (start : Option WalkAt) → IsPrintedTo contents failures old new style start None
      → (all : List WithTexts) (text : List ℕ) → GoesOver start all → IsLog (as_diff style) (map told_of all) text → HasTaken contents failures old new text
  all_printed style start so_far all text goes log =
      let (left, rest, none, log_rest, taken) = so_far all text goes log in
      IsTakenTo-all taken (subst (λ es. IsLog (as_diff style) (map told_of es) rest) none log_rest)

-- the edits after the first of a walk have their steps
pub next_have_steps : (walk : WalkAt) (next : Option WalkAt) → ((others : List WithTexts) → GoOn walk.left walk.at.after others → GoesOver next others)
    → HaveSteps (Some walk) → HaveSteps next
next_have_steps walk next goes_on (all, (others, is, on), steps) = (others, goes_on others on, (subst (AllByRecursion HasSteps) is steps).1)

pub first_has_steps : (walk : WalkAt) → HaveSteps (Some walk) → HasSteps walk.at
first_has_steps walk (all, (others, is, on), steps) = (subst (AllByRecursion HasSteps) is steps).0

-- a step of a walk leaves less of it
pub next_is_less : (walk : WalkAt) (next : Option WalkAt) → IsAtFirst walk.left next → left_over next < left_over (Some walk)
next_is_less walk None none = let less = ap length none in omega (arith, less)
next_is_less walk (Some next) more = let less = ap length more in omega (arith, less)
