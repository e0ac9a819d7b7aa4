-- The machine's edits with their texts are those of the history for which contents stand.
use Rattle.std.proofs.Common.{◌≡◌, ◌⊎◌, inl, inr, ℕ, Bool, true, false, List, [], ◌∷◌, ◌++◌, map, reverse, Option, Some, None, Result, Ok, Err, sym, ap, ap₂, subst, refl, ◌∙◌}
use Rattle.std.specs.Prelude.{◌≢◌, ◌==◌, find, slice_get, if◌then◌else◌}
use Rattle.std.specs.List.{AllByRecursion}
use Rattle.std.proofs.lemmas.Bool.{false≢true, cases_Bool, eqb-true, eqb-false}
use Rattle.std.proofs.lemmas.List.{map-append, reverse-reverse}
use Rattle.rec_text.specs.declared.fault.Fault.{Fault}
use Rattle.rec_journal.specs.declared.event.EditStep.{EditStep}
use Rattle.rec_journal.specs.declared.event.Revision.{Revision}
use Rattle.rec_journal.specs.declared.event.Tool.{Tool}
use Rattle.rec_journal.specs.declared.history.steps.Step.{Step}
use Rattle.rec_journal.specs.declared.patch.Direction.{Direction}
use Rattle.rec_journal.specs.declared.patch.Direction.TheVariants.{Forward, Backward}
use Rattle.rec_journal.specs.EditTexts.{WithTexts, Way, IsWayTo, IsEditAt, IsEditTexts, AreTextsOn, AreEditTexts, with_texts, none_such, step_in}
use Rattle.rec_journal.specs.History.{Opened, Opens}
use Rattle.rec_journal.specs.Listing.{step_of, steps_of}
use Rattle.rec_journal.specs.Plans.{edits_on}
use Rattle.rec_journal.proofs.lemmas.patches.StepLemmas.{Leads-steps}
use Rattle.rec_journal.proofs.lemmas.texts.AllLemmas.{one_list_of_texts}
use Rattle.rec_journal.proofs.lemmas.texts.WayLemmas.{one_edit_texts}
use Rattle.rec_tools.specs.Home.{Contents}
use Rattle.rec_tools.specs.Printouts.{Told, told_of}
use Rattle.rec_tools.specs.Stands.{AreEntries}
use Rattle.rec_tools.specs.States.{Entry, State, told_back, told_on, told_in, told_edit, entries_on}
use Rattle.rec_text.proofs.lemmas.FaultLemmas.{same_value}
use Rattle.rec_text.proofs.lemmas.ListLemmas.{AllByRecursion-prefix, AllByRecursion-following}
use Rattle.rec_journal.proofs.lemmas.plans.ReplayLemmas.{AllByRecursion-reverse}
use Rattle.rec_tools.proofs.lemmas.machine.StandsLemmas.{StandsBy}
use Rattle.rec_tools.proofs.lemmas.printing.ListedLemmas.{reverse-map}

-- ---- the edits one after another

told_alike : (done : Bool) (e : Revision) (entry : Entry) (before after : List ℕ) → e.number ≡ entry.number → e.tool ≡ entry.tool → e.steps ≡ entry.steps
    → told_of (record { edit = e; done = done; before = before; after = after })
    ≡ record { done = done; number = entry.number; tool = entry.tool; steps = entry.steps; before = before; after = after }
told_alike done e entry before after number tool steps =
    let made : ℕ → Tool → List EditStep → Told = λ n t ss. record { done = done; number = n; tool = t; steps = ss; before = before; after = after } in
    ap₂ (λ n t. made n t e.steps) number tool ∙ ap (made entry.number entry.tool) steps

-- edits that way with their texts, as the machine tells them
record AreTold (direction : Direction) (es : List Revision) (here : List ℕ) (told : List Told) : Type 0 where
  all : List WithTexts
  are : AreTextsOn direction es here all
  same : map told_of all ≡ told

told_all_back : (es : List Revision) (entries : List Entry) (here : List ℕ) → AreEntries Backward es entries here → AreTold Backward es here (told_back entries here)
told_all_back [] [] here are = record { all = []; are = refl; same = refl }
told_all_back [] (entry ∷ entries) here are = absurd are
told_all_back (e ∷ es) [] here are = absurd are
told_all_back (e ∷ es) (entry ∷ entries) here are =
    let rest = told_all_back es entries entry.text are.4 in
    record {
      all = with_texts Backward e here entry.text ∷ rest.all;
      are = (entry.text, rest.all, are.3, refl, rest.are);
      same = ap₂ (λ x xs. x ∷ xs) (told_alike true e entry entry.text here are.0 are.1 are.2) rest.same;
    }

told_all_on : (es : List Revision) (entries : List Entry) (here : List ℕ) → AreEntries Forward es entries here → AreTold Forward es here (told_on entries here)
told_all_on [] [] here are = record { all = []; are = refl; same = refl }
told_all_on [] (entry ∷ entries) here are = absurd are
told_all_on (e ∷ es) [] here are = absurd are
told_all_on (e ∷ es) (entry ∷ entries) here are =
    let rest = told_all_on es entries entry.text are.4 in
    record {
      all = with_texts Forward e here entry.text ∷ rest.all;
      are = (entry.text, rest.all, are.3, refl, rest.are);
      same = ap₂ (λ x xs. x ∷ xs) (told_alike false e entry here entry.text are.0 are.1 are.2) rest.same;
    }

-- the whole history, as the machine tells it
pub record IsTold (o : Opened) (file : List ℕ) (s : State) : Type 0 where
  pub all : List WithTexts
  pub are : AreEditTexts o file all
  pub same : map told_of all ≡ told_in s

pub all_told : (o : Opened) (c : Contents) (s : State) → StandsBy o c s → IsTold o c.file s
all_told o c s by =
    let back = told_all_back o.past s.past c.file by.past in
    let on = told_all_on o.future s.future c.file by.future in
    record {
      all = reverse back.all ++ on.all;
      are = (back.all, on.all, refl, back.are, on.are);
      same = map-append told_of (reverse back.all) on.all
          ∙ ap₂ (λ xs ys. xs ++ ys) (sym (reverse-map told_of back.all) ∙ ap reverse back.same) on.same
          ∙ ap (λ here. reverse (told_back s.past here) ++ told_on s.future here) (sym by.present);
    }

-- ---- one edit

-- what is found of a number in edits that are so
found : (P : WithTexts → Type 0) (n : ℕ) (all : List WithTexts) → AllByRecursion P all
    → ((m : WithTexts) × P m × (m.edit.number ≡ n) × (find (λ e. e.number == n) (map told_of all) ≡ Some (told_of m)))
    ⊎ (AllByRecursion (λ m. m.edit.number ≢ n) all × (find (λ e. e.number == n) (map told_of all) ≡ None))
found P n [] holds = inr (tt, refl)
found P n (m ∷ all) holds =
    let rest : Option Told = find (λ e. e.number == n) (map told_of all) in
    elim (cases_Bool (m.edit.number == n)) [
      | inl is ↦ inl (m, holds.0, eqb-true m.edit.number n is, ap (λ b. if b then Some (told_of m) else rest) is)
      | inr other ↦
          elim (found P n all holds.1) [
            | inl there ↦ inl (there.0, there.1, there.2, ap (λ b. if b then Some (told_of m) else rest) other ∙ there.3)
            | inr none ↦ inr ((eqb-false m.edit.number n other, none.0), ap (λ b. if b then Some (told_of m) else rest) other ∙ none.1)
          ]
    ]

-- none of the steps has the number
steps_without : (n : ℕ) (all : List WithTexts) → AllByRecursion (λ m. m.edit.number ≢ n) all → AllByRecursion (λ (step : Step). step.number ≢ n) (map step_in all)
steps_without n [] none = tt
steps_without n (m ∷ all) none = (none.0, steps_without n all none.1)

all_of_reverse : {X : Type 0} (P : X → Type 0) (xs : List X) → AllByRecursion P (reverse xs) → AllByRecursion P xs
all_of_reverse P xs all = subst (AllByRecursion P) (reverse-reverse xs) (AllByRecursion-reverse P (reverse xs) all)

edits_of_steps : (n : ℕ) (done : Bool) (es : List Revision) → AllByRecursion (λ (step : Step). step.number ≢ n) (map (step_of done) es) → AllByRecursion (λ (e : Revision). e.number ≢ n) es
edits_of_steps n done [] none = tt
edits_of_steps n done (e ∷ es) none = (none.0, edits_of_steps n done es none.1)

-- so none of the edits has it, either way
without_on : (o : Opened) (n : ℕ) → AllByRecursion (λ (step : Step). step.number ≢ n) (steps_of o) → (direction : Direction)
    → AllByRecursion (λ (e : Revision). e.number ≢ n) (edits_on direction o)
without_on o n none Backward =
    all_of_reverse (λ (e : Revision). e.number ≢ n) o.past
    (edits_of_steps n true (reverse o.past) (AllByRecursion-prefix (λ (step : Step). step.number ≢ n) (map (step_of true) (reverse o.past)) (map (step_of false) o.future) none))
without_on o n none Forward =
    edits_of_steps n false o.future (AllByRecursion-following (λ (step : Step). step.number ≢ n) (map (step_of true) (reverse o.past)) (map (step_of false) o.future) none)

no_way_to : (o : Opened) (n : ℕ) → AllByRecursion (λ (step : Step). step.number ≢ n) (steps_of o) → (way : Way) → IsWayTo o (Some n) way → ⊥
no_way_to o n none way is =
    let on = subst (AllByRecursion (λ (e : Revision). e.number ≢ n)) is.there (without_on o n none way.direction) in
    (AllByRecursion-following (λ (e : Revision). e.number ≢ n) way.nearer (way.edit ∷ way.farther) on).0 is.for

-- ---- the texts on a way

-- over edits that have entries each edit's texts are there
texts_at : (direction : Direction) (nearer farther : List Revision) (e : Revision) (entries : List Entry) (here : List ℕ)
    → AreEntries direction (nearer ++ e ∷ farther) entries here → (way : Way) → way ≡ record { direction = direction; nearer = nearer; edit = e; farther = farther }
    → (made : WithTexts) × IsEditAt here way made
texts_at direction [] farther e [] here are way is = absurd are
texts_at direction [] farther e (entry ∷ entries) here are way is =
    subst (λ w. (made : WithTexts) × IsEditAt here w made) (sym is) (
      with_texts direction e here entry.text,
      record { here = here; there = entry.text; over = refl; leads = are.3; is = refl },
    )
texts_at direction (one ∷ nearer) farther e [] here are way is = absurd are
texts_at direction (one ∷ nearer) farther e (entry ∷ entries) here are way is =
    let next = texts_at direction nearer farther e entries entry.text are.4 (record { direction = direction; nearer = nearer; edit = e; farther = farther }) refl in
    subst (λ w. (made : WithTexts) × IsEditAt here w made) (sym is) (
      next.0,
      record { here = next.1.here; there = next.1.there; over = (entry.text, Leads-steps direction one here entry.text are.3, next.1.over); leads = next.1.leads; is = next.1.is },
    )

module _ (o : Opened) (c : Contents) (s : State) (by : StandsBy o c s) (opens : Opens c.file c.journal o) where
  entries_that_way : (direction : Direction) → AreEntries direction (edits_on direction o) (entries_on direction s) c.file
  entries_that_way Backward = by.past
  entries_that_way Forward = by.future

  texts_of_way : (asked : Option ℕ) (way : Way) → IsWayTo o asked way → (made : WithTexts) × IsEditAt c.file way made
  texts_of_way asked way is =
      texts_at way.direction way.nearer way.farther way.edit (entries_on way.direction s) c.file
      (subst (λ es. AreEntries way.direction es (entries_on way.direction s) c.file) is.there (entries_that_way way.direction)) way refl

  -- ---- what is shown of an edit

  -- the edit of the history that is asked for is the machine's
  abbrev IsFoundAs : Option ℕ → Option Told → Type 0
  IsFoundAs asked None = (way : Way) → IsWayTo o asked way → ⊥
  IsFoundAs asked (Some told) = (made : WithTexts) × IsEditTexts o c.file asked (Ok made) × (told ≡ told_of made)

  newest_of : (es : List Revision) (entries : List Entry) → o.past ≡ es → s.past ≡ entries → AreEntries Backward es entries c.file
      → IsFoundAs None (slice_get (told_back entries c.file) 0)
  newest_of [] [] past entries_are are = λ way is. nowhere way is.there is.for
    where
      nowhere : (way : Way) → edits_on way.direction o ≡ way.nearer ++ way.edit ∷ way.farther → (way.direction ≡ Backward) × (way.nearer ≡ []) → ⊥
      nowhere way there for =
          let none : [] ≡ way.edit ∷ way.farther = sym past ∙ sym (ap (λ d. edits_on d o) for.0) ∙ there ∙ ap (λ ns. ns ++ way.edit ∷ way.farther) for.1 in cc
  newest_of [] (entry ∷ entries) past entries_are are = absurd are
  newest_of (e ∷ es) [] past entries_are are = absurd are
  newest_of (e ∷ es) (entry ∷ entries) past entries_are are =
      let made = with_texts Backward e c.file entry.text in
      let way : Way = record { direction = Backward; nearer = []; edit = e; farther = es } in (
        made,
        (by.settled, way, record { there = past; for = (refl, refl) }, record { here = c.file; there = entry.text; over = refl; leads = are.3; is = refl }),
        sym (told_alike true e entry entry.text c.file are.0 are.1 are.2),
      )

  numbered_of : (n : ℕ) → IsFoundAs (Some n) (find (λ e. e.number == n) (told_in s))
  numbered_of n =
      let told = all_told o c s by in
      let list = one_list_of_texts c.file o told.all by.settled told.are in
      subst (λ es. IsFoundAs (Some n) (find (λ e. e.number == n) es)) told.same (
      elim (found (λ m. IsEditTexts o c.file (Some m.edit.number) (Ok m)) n told.all list.each) [
        | inl there ↦
            subst (IsFoundAs (Some n)) (sym there.3) (there.0, subst (λ k. IsEditTexts o c.file (Some k) (Ok there.0)) there.2 there.1, refl)
        | inr none ↦
            subst (IsFoundAs (Some n)) (sym none.1) (no_way_to o n (subst (AllByRecursion (λ (step : Step). step.number ≢ n)) list.steps (steps_without n told.all none.0)))
      ]
      )

  found_as : (asked : Option ℕ) → IsFoundAs asked (told_edit asked s)
  found_as None = subst (λ here. IsFoundAs None (slice_get (told_back s.past here) 0)) (sym by.present) (newest_of o.past s.past refl refl by.past)
  found_as (Some n) = numbered_of n

  -- it is the one with these texts
  told_made : (asked : Option ℕ) (made : WithTexts) (told : Option Told) → IsEditTexts o c.file asked (Ok made) → IsFoundAs asked told → told ≡ Some (told_of made)
  told_made asked made None is none = absurd (none is.1 is.2)
  told_made asked made (Some told) is (other, is_too, e) =
      ap Some (e ∙ ap told_of (same_value other made (one_edit_texts c.file c.journal o asked opens (Ok other) (Ok made) is_too is)))

  told_none : (asked : Option ℕ) (fault : Fault) (told : Option Told) → IsEditTexts o c.file asked (Err fault) → IsFoundAs asked told → (told ≡ None) × (fault ≡ none_such asked)
  told_none asked fault told (inl (e, inl drifted)) as_found = absurd (false≢true (sym by.settled ∙ drifted))
  told_none asked fault told (inl (e, inr (settled, (way, is, none)))) as_found = let there = texts_of_way asked way is in absurd (none there.0 there.1)
  told_none asked fault None (inr (e, settled, nowhere)) as_found = (refl, e)
  told_none asked fault (Some told) (inr (e, settled, nowhere)) (made, is, same) = absurd (nowhere is.1 is.2)

  pub shown_edit-told : (asked : Option ℕ) (made : WithTexts) → IsEditTexts o c.file asked (Ok made) → told_edit asked s ≡ Some (told_of made)
  shown_edit-told asked made is = told_made asked made (told_edit asked s) is (found_as asked)

  pub shown_edit-none : (asked : Option ℕ) (fault : Fault) → IsEditTexts o c.file asked (Err fault) → (told_edit asked s ≡ None) × (fault ≡ none_such asked)
  shown_edit-none asked fault is = told_none asked fault (told_edit asked s) is (found_as asked)
