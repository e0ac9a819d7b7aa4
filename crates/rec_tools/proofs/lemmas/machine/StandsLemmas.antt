-- Contents stand for one state at most, and a file and an empty journal stand for the first.
use Rattle.std.proofs.Common.{arith, ◌≡◌, ◌≢◌, inr, ℕ, false, List, [], ◌∷◌, ◌++◌, length, length-append, Ok, Err, sym, ap, ap₂, subst, refl, ◌∙◌}
use Rattle.rec_text.specs.declared.fault.Fault.{Fault}
use Rattle.rec_text.proofs.lemmas.FaultLemmas.{ok_is_no_err, same_value}
use Rattle.rec_journal.specs.declared.event.EditStep.{EditStep}
use Rattle.rec_journal.specs.declared.event.Revision.{Revision}
use Rattle.rec_journal.specs.declared.patch.Direction.{Direction}
use Rattle.rec_journal.specs.declared.patch.Direction.TheVariants.{Forward, Backward}
use Rattle.rec_journal.specs.declared.event.Tool.{Tool}
use Rattle.rec_journal.specs.History.{Opened, Opens, IsOpening, IsRegular, open_at, spelled, start, newest_header}
use Rattle.rec_journal.proofs.lemmas.histories.Countings.{settled-none_dropped}
use Rattle.rec_journal.proofs.lemmas.histories.Headers.{length-header}
use Rattle.rec_journal.proofs.lemmas.histories.Openings.{one_opening}
use Rattle.rec_journal.proofs.lemmas.patches.StepLemmas.{edits_lead_to_one_text}
use Rattle.rec_tools.specs.Home.{Contents}
use Rattle.rec_tools.specs.Laws.{OneState, FirstStands}
use Rattle.rec_tools.specs.Stands.{AreEntries, Stands}
use Rattle.rec_tools.specs.States.{Entry, State}

-- ---- contents that stand for a state, by a history that is known

-- the parts of `Stands`, where the opening is known
pub record StandsBy (o : Opened) (c : Contents) (s : State) : Type 0 where
  pub settled : o.drifted ≡ false
  pub present : s.present ≡ c.file
  pub past : AreEntries Backward o.past s.past c.file
  pub future : AreEntries Forward o.future s.future c.file
  pub next : s.next ≡ o.next
  pub made : s.made ≡ o.made
  pub none_dropped : o.dropped ≡ 0

-- contents open in one way, so they stand by the history that they open with
pub stands_by : (c : Contents) (s : State) (o : Opened) → Stands c s → Opens c.file c.journal o → StandsBy o c s
stands_by c s o stands opens =
    let same = same_value stands.opened o (one_opening c.file c.journal (Ok stands.opened) (Ok o) stands.opens opens) in
    subst (λ x. StandsBy x c s) same (record {
      settled = stands.settled;
      present = stands.present;
      past = stands.past;
      future = stands.future;
      next = stands.next;
      made = stands.made;
      none_dropped = settled-none_dropped c.file c.journal stands.opened stands.opens stands.settled;
    })

-- they can be opened
pub can_be_opened : (c : Contents) (s : State) → Stands c s → (fault : Fault) → IsOpening c.file c.journal (Err fault) → ⊥
can_be_opened c s stands fault refused = ok_is_no_err stands.opened fault ⊥ (one_opening c.file c.journal (Err fault) (Ok stands.opened) refused stands.opens)

-- ---- one state

same_entry : (one other : Entry) → one.number ≡ other.number → one.tool ≡ other.tool → one.steps ≡ other.steps → one.text ≡ other.text → one ≡ other
same_entry one other number tool steps text =
    let made : ℕ → Tool → List EditStep → List ℕ → Entry = λ n t ss x. record { number = n; tool = t; steps = ss; text = x } in
    ap₂ (λ n t. made n t one.steps one.text) number tool ∙ ap₂ (made other.number other.tool) steps text

pub one_list_of_entries : (direction : Direction) (es : List Revision) (one other : List Entry) (here : List ℕ)
    → AreEntries direction es one here → AreEntries direction es other here → one ≡ other
one_list_of_entries direction [] [] [] here are are_too = refl
one_list_of_entries direction [] [] (y ∷ ys) here are are_too = absurd are_too
one_list_of_entries direction [] (x ∷ xs) other here are are_too = absurd are
one_list_of_entries direction (e ∷ es) [] other here are are_too = absurd are
one_list_of_entries direction (e ∷ es) (x ∷ xs) [] here are are_too = absurd are_too
one_list_of_entries direction (e ∷ es) (x ∷ xs) (y ∷ ys) here are are_too =
    let text = edits_lead_to_one_text direction e here x.text y.text are.3 are_too.3 in
    let following = subst (λ t. AreEntries direction es ys t) (sym text) are_too.4 in
    ap₂ (λ z zs. z ∷ zs) (same_entry x y (sym are.0 ∙ are_too.0) (sym are.1 ∙ are_too.1) (sym are.2 ∙ are_too.2) text)
    (one_list_of_entries direction es xs ys x.text are.4 following)

pub same_state : (one other : State) → one.past ≡ other.past → one.present ≡ other.present → one.future ≡ other.future → one.next ≡ other.next
    → one.made ≡ other.made → one ≡ other
same_state one other past present future next made =
    let state : List Entry → List ℕ → List Entry → ℕ → ℕ → State = λ p t f n m. record { past = p; present = t; future = f; next = n; made = m } in
    ap (λ p. state p one.present one.future one.next one.made) past
    ∙ ap (λ t. state other.past t one.future one.next one.made) present
    ∙ ap (λ f. state other.past other.present f one.next one.made) future
    ∙ ap₂ (state other.past other.present other.future) next made

pub one_state : OneState
one_state c s t stands stands_too =
    let by = stands_by c t stands.opened stands_too stands.opens in
    same_state s t
    (one_list_of_entries Backward stands.opened.past s.past t.past c.file stands.past by.past)
    (stands.present ∙ sym by.present)
    (one_list_of_entries Forward stands.opened.future s.future t.future c.file stands.future by.future)
    (stands.next ∙ sym by.next)
    (stands.made ∙ sym by.made)

-- ---- the first state

header_is_some : newest_header ≢ []
header_is_some e = cc

pub first_stands : FirstStands
first_stands file = record {
  opened = open_at _ start 0;
  opens = inr (record { header = newest_header; is_header = (0, omega arith, refl); rest = newest_header; more = header_is_some; prefix = refl; is = refl });
  settled = refl;
  present = refl;
  past = tt;
  future = tt;
  next = refl;
  made = refl;
}

-- no header fits in an empty journal
pub empty_is_regular : IsRegular []
empty_is_regular header events tail holds =
    absurd (omega (arith, ap length holds.whole, length-append header (spelled events ++ tail), length-header header holds.is_header))
