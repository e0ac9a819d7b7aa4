-- After forgetting, what is left stands for the machine's state.
use Rattle.std.proofs.Common.{arith, ◌≡◌, ℕ, ◌+◌, ◌*◌, zero, suc, List, [], ◌∷◌, ◌++◌, length, reverse, take, ap, ap₂, sym, subst, refl, ◌∙◌}
use Rattle.std.proofs.lemmas.List.{reverse-append, length-reverse}
use Rattle.rec_journal.specs.declared.event.Revision.{Revision}
use Rattle.rec_journal.specs.declared.patch.Direction.{Direction}
use Rattle.rec_journal.specs.declared.patch.Direction.TheVariants.{Forward, Backward}
use Rattle.rec_journal.specs.Forgetting.{numbered_from, numbered_edit, past_left, forgotten_journal, after_forgetting}
use Rattle.rec_journal.specs.History.{Opened, Opens}
use Rattle.rec_journal.specs.Revisions.{Leads}
use Rattle.rec_tools.specs.Home.{Contents}
use Rattle.rec_tools.specs.Stands.{AreEntries, Stands}
use Rattle.rec_tools.specs.States.{Entry, State, numbered_entry, state_after_forgetting}
use Rattle.rec_tools.proofs.lemmas.machine.StandsLemmas.{StandsBy}

-- ---- numbers from the last on

-- the last has this number, and each other the one after that of the next
abbrev numbered_up : {X : Type 0} → (ℕ → X → X) → ℕ → List X → List X
numbered_up numbered n [] = []
numbered_up numbered n (x ∷ xs) = numbered (n + length xs) x ∷ numbered_up numbered n xs

module _ {X : Type 0} (numbered : ℕ → X → X) where
  numbered_from-push : (n : ℕ) (xs : List X) (x : X)
      → numbered_from numbered n (xs ++ x ∷ []) ≡ numbered_from numbered n xs ++ numbered (n + length xs) x ∷ []
  numbered_from-push n [] x = ap (λ k. numbered k x ∷ []) (omega arith)
  numbered_from-push n (y ∷ ys) x =
      ap (λ l. numbered n y ∷ l)
      (numbered_from-push (n + 1) ys x ∙ ap (λ k. numbered_from numbered (n + 1) ys ++ numbered k x ∷ []) (omega arith))

  reverse-numbered_from : (n : ℕ) (xs : List X) → reverse (numbered_from numbered n (reverse xs)) ≡ numbered_up numbered n xs
  reverse-numbered_from n [] = refl
  reverse-numbered_from n (x ∷ xs) =
      ap (λ l. reverse (numbered_from numbered n l)) (reverse-append (x ∷ []) xs)
      ∙ ap reverse (numbered_from-push n (reverse xs) x)
      ∙ reverse-append (numbered_from numbered n (reverse xs)) (numbered (n + length (reverse xs)) x ∷ [])
      ∙ ap₂ (λ k l. numbered (n + k) x ∷ l) (length-reverse xs) (reverse-numbered_from n xs)

-- ---- edits and their entries

-- an edit leads on under any number
leads_numbered : (direction : Direction) (n : ℕ) (e : Revision) (here there : List ℕ) → Leads direction e here there
    → Leads direction (numbered_edit n e) here there
leads_numbered Backward n e here there leads =
    record { leads = leads.leads; digest_before = leads.digest_before; digest_after = leads.digest_after }
leads_numbered Forward n e here there leads =
    record { leads = leads.leads; digest_before = leads.digest_before; digest_after = leads.digest_after }

module _ (direction : Direction) where
  pub as_many_edits : (es : List Revision) (entries : List Entry) (here : List ℕ) → AreEntries direction es entries here
      → length es ≡ length entries
  as_many_edits [] [] here are = refl
  as_many_edits [] (entry ∷ entries) here are = absurd are
  as_many_edits (e ∷ es) [] here are = absurd are
  as_many_edits (e ∷ es) (entry ∷ entries) here are = ap suc (as_many_edits es entries entry.text are.4)

  take-entries : (n : ℕ) (es : List Revision) (entries : List Entry) (here : List ℕ) → AreEntries direction es entries here
      → AreEntries direction (take n es) (take n entries) here
  take-entries zero es entries here are = tt
  take-entries (suc n) [] [] here are = tt
  take-entries (suc n) [] (entry ∷ entries) here are = absurd are
  take-entries (suc n) (e ∷ es) [] here are = absurd are
  take-entries (suc n) (e ∷ es) (entry ∷ entries) here are = (are.0, are.1, are.2, are.3, take-entries n es entries entry.text are.4)

  entries_numbered_from : (n : ℕ) (es : List Revision) (entries : List Entry) (here : List ℕ) → AreEntries direction es entries here
      → AreEntries direction (numbered_from numbered_edit n es) (numbered_from numbered_entry n entries) here
  entries_numbered_from n [] [] here are = tt
  entries_numbered_from n [] (entry ∷ entries) here are = absurd are
  entries_numbered_from n (e ∷ es) [] here are = absurd are
  entries_numbered_from n (e ∷ es) (entry ∷ entries) here are =
      (refl, are.1, are.2, leads_numbered direction n e here entry.text are.3, entries_numbered_from (n + 1) es entries entry.text are.4)

  entries_numbered_up : (n : ℕ) (es : List Revision) (entries : List Entry) (here : List ℕ) → AreEntries direction es entries here
      → AreEntries direction (numbered_up numbered_edit n es) (numbered_up numbered_entry n entries) here
  entries_numbered_up n [] [] here are = tt
  entries_numbered_up n [] (entry ∷ entries) here are = absurd are
  entries_numbered_up n (e ∷ es) [] here are = absurd are
  entries_numbered_up n (e ∷ es) (entry ∷ entries) here are = (
    ap (λ k. n + k) (as_many_edits es entries entry.text are.4),
    are.1,
    are.2,
    leads_numbered direction (n + length es) e here entry.text are.3,
    entries_numbered_up n es entries entry.text are.4,
  )

-- ---- the state after it

-- the newest n, numbered from the oldest on
entries_left : (n : ℕ) (o : Opened) (s : State) (here : List ℕ) → AreEntries Backward o.past s.past here
    → AreEntries Backward (reverse (past_left n o)) (reverse (numbered_from numbered_entry 1 (reverse (take n s.past)))) here
entries_left n o s here are =
    subst (λ es. AreEntries Backward es (reverse (numbered_from numbered_entry 1 (reverse (take n s.past)))) here)
    (sym (reverse-numbered_from numbered_edit 1 (take n o.past)))
    (subst (λ entries. AreEntries Backward (numbered_up numbered_edit 1 (take n o.past)) entries here)
    (sym (reverse-numbered_from numbered_entry 1 (take n s.past)))
    (entries_numbered_up Backward 1 (take n o.past) (take n s.past) here (take-entries Backward n o.past s.past here are)))

pub stands_after_forgetting : (n : ℕ) (o : Opened) (c : Contents) (s : State) → StandsBy o c s
    → Opens c.file (forgotten_journal n o) (after_forgetting n o)
    → Stands (record { file = c.file; journal = forgotten_journal n o }) (state_after_forgetting n s)
stands_after_forgetting n o c s by opens = record {
  opened = after_forgetting n o;
  opens = opens;
  settled = refl;
  present = by.present;
  past = entries_left n o s c.file by.past;
  future = entries_numbered_from Forward (n + 1) o.future s.future c.file by.future;
  next = ap (λ k. n + 2 * k + 1) (sym (as_many_edits Forward o.future s.future c.file by.future));
  made = ap (λ k. n + k) (sym (as_many_edits Forward o.future s.future c.file by.future));
}
