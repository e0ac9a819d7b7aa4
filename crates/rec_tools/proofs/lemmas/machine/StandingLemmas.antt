-- The edit that a revert takes back is that of the machine, with the later ones.
use Rattle.std.proofs.Common.{◌≡◌, ◌≢◌, inl, inr, ℕ, Bool, true, false, List, [], ◌∷◌, ◌++◌, map, reverse, append_assoc, append-nil, Option, Some, None, Result, Ok, Err, sym, ap, ap₂, subst}
use Rattle.std.proofs.Common.{refl, ◌∙◌}
use Rattle.std.specs.Prelude.{◌==◌, bytes_eq, if◌then◌else◌}
use Rattle.std.specs.List.{AllByRecursion}
use Rattle.std.proofs.lemmas.Bool.{false≢true, cases_Bool, eqb-true, eqb-false}
use Rattle.std.proofs.lemmas.List.{reverse-append}
use Rattle.rec_text.specs.declared.fault.Fault.{Fault}
use Rattle.rec_text.proofs.lemmas.FaultLemmas.{no_both, same_value}
use Rattle.rec_text.proofs.lemmas.ListLemmas.{AllByRecursion-append, AllByRecursion-following}
use Rattle.rec_journal.specs.declared.event.EditStep.{EditStep}
use Rattle.rec_journal.specs.declared.event.Revision.{Revision}
use Rattle.rec_journal.specs.declared.event.Tool.{Tool}
use Rattle.rec_journal.specs.declared.patch.Direction.{Direction}
use Rattle.rec_journal.specs.declared.patch.Direction.TheVariants.{Forward, Backward}
use Rattle.rec_journal.specs.EditTexts.{LeadOver, Way, WithLater, IsStandingEdit, IsWayBack, with_texts}
use Rattle.rec_journal.specs.History.{Opened, Opens}
use Rattle.rec_journal.specs.Plans.{edits_on}
use Rattle.rec_journal.specs.Revisions.{joined_steps, Leads}
use Rattle.rec_journal.proofs.lemmas.texts.OverLemmas.{LeadOver-append}
use Rattle.rec_journal.proofs.lemmas.texts.StandingLemmas.{one_standing_edit}
use Rattle.rec_edit.specs.declared.answer.Edited.{Edited}
use Rattle.rec_tools.specs.Home.{Contents}
use Rattle.rec_tools.specs.Machine.{IsRevertIn}
use Rattle.rec_tools.specs.Stands.{AreEntries}
use Rattle.rec_tools.specs.States.{Entry, State, standing_at, standing_in, told_back}
use Rattle.rec_tools.specs.Reverting.{IsRevertOf, standing_of}
use Rattle.rec_tools.specs.Asked.{Standing, Reversal}
use Rattle.rec_tools.proofs.lemmas.machine.StandsLemmas.{StandsBy}

abbrev steps_of_each : List Revision → List (List EditStep)
steps_of_each edits = map (λ (e : Revision). e.steps) edits

same_standing : (one other : Standing) → one.tool ≡ other.tool → one.steps ≡ other.steps → one.before ≡ other.before → one.after ≡ other.after → one.later ≡ other.later → one ≡ other
same_standing one other tool steps before after later =
    let made : Tool → List EditStep → List ℕ → List ℕ → List EditStep → Standing = λ t ss b a l. record { tool = t; steps = ss; before = b; after = a; later = l } in
    ap₂ (λ t ss. made t ss one.before one.after one.later) tool steps ∙ ap₂ (λ b a. made other.tool other.steps b a one.later) before after
    ∙ ap (made other.tool other.steps other.before other.after) later

edits_back : (direction : Direction) (o : Opened) → direction ≡ Backward → edits_on direction o ≡ o.past
edits_back Backward o back = refl
edits_back Forward o back = absurd cc

module _ (o : Opened) (c : Contents) (s : State) (by : StandsBy o c s) (opens : Opens c.file c.journal o) (number : ℕ) where
  -- the machine's edit is that of the history
  record IsFoundAs (e : Standing) : Type 0 where
    found : WithLater
    is : IsStandingEdit o c.file number (Ok found)
    same : standing_of found ≡ e

  abbrev FoundAs : Option Standing → Type 0
  FoundAs None = AllByRecursion (λ (e : Revision). e.number ≢ number) o.past
  FoundAs (Some e) = IsFoundAs e

  -- at its entry
  module _ (newer : List Revision) (e : Revision) (es : List Revision) (there : o.past ≡ newer ++ e ∷ es) (entry : Entry) (here : List ℕ) (over : LeadOver Backward newer c.file here)
      (numbered : e.number ≡ entry.number) (tool : e.tool ≡ entry.tool) (steps : e.steps ≡ entry.steps) (leads : Leads Backward e here entry.text)
      (later : List EditStep) (are : later ≡ joined_steps (steps_of_each (reverse newer))) where
    abbrev counted : {A : Type 0} → List A → List A
    counted all = if bytes_eq here c.file then [] else all

    counted_joined : counted (joined_steps (steps_of_each (reverse newer))) ≡ joined_steps (counted (steps_of_each (reverse newer)))
    counted_joined = elim (cases_Bool (bytes_eq here c.file)) [
      | inl alike ↦ rw alike refl
      | inr differ ↦ rw differ refl
    ]

    found_here : entry.number ≡ number → IsFoundAs (record { tool = entry.tool; steps = entry.steps; before = entry.text; after = here; later = counted later })
    found_here same = record {
      found = record { made = with_texts Backward e here entry.text; later = counted (steps_of_each (reverse newer)) };
      is = (
        by.settled,
        record { direction = Backward; nearer = newer; edit = e; farther = es },
        record { back = refl; to = record { there = there; for = numbered ∙ same } },
        record { made = record { here = here; there = entry.text; over = over; leads = leads; is = refl }; later = refl },
      );
      same = same_standing _ _ tool steps refl refl (sym (ap counted are ∙ counted_joined));
    }

  -- after these newer ones
  search : (newer es : List Revision) (entries : List Entry) (here : List ℕ) (later : List EditStep) → o.past ≡ newer ++ es → AllByRecursion (λ (e : Revision). e.number ≢ number) newer
      → LeadOver Backward newer c.file here → AreEntries Backward es entries here → later ≡ joined_steps (steps_of_each (reverse newer))
      → FoundAs (standing_in number c.file later (told_back entries here))
  search newer [] [] here later there none over are is = subst (AllByRecursion (λ (e : Revision). e.number ≢ number)) (sym (there ∙ append-nil newer)) none
  search newer [] (entry ∷ entries) here later there none over are is = absurd are
  search newer (e ∷ es) [] here later there none over are is = absurd are
  search newer (e ∷ es) (entry ∷ entries) here later there none over are is =
      let chosen : Bool → Option Standing =
      λ b. if b then Some (record { tool = entry.tool; steps = entry.steps; before = entry.text; after = here; later = if bytes_eq here c.file then [] else later })
      else standing_in number c.file (entry.steps ++ later) (told_back entries entry.text) in
      elim (cases_Bool (entry.number == number)) [
        | inl yes_it_is ↦ subst FoundAs (sym (ap chosen yes_it_is))
            (found_here newer e es there entry here over are.0 are.1 are.2 are.3 later is (eqb-true entry.number number yes_it_is))
        | inr no_it_is_not ↦ subst FoundAs (sym (ap chosen no_it_is_not))
            (search (newer ++ e ∷ []) es entries entry.text (entry.steps ++ later) (there ∙ sym (append_assoc newer (e ∷ []) es))
            (AllByRecursion-append (λ (x : Revision). x.number ≢ number) newer (e ∷ []) none ((λ same. eqb-false entry.number number no_it_is_not (sym are.0 ∙ same)), tt))
            (LeadOver-append Backward newer (e ∷ []) c.file here entry.text over (entry.text, are.3.leads, refl)) are.4
            (ap₂ (λ xs ys. xs ++ ys) (sym are.2) is ∙ sym (ap (λ (edits : List Revision). joined_steps (steps_of_each edits)) (reverse-append newer (e ∷ [])))))
      ]

  found_as : FoundAs (standing_at number s)
  found_as =
      subst (λ t. FoundAs (standing_in number t [] (told_back s.past t))) (sym by.present)
      (search [] o.past s.past c.file [] refl tt refl by.past refl)

  no_way : AllByRecursion (λ (e : Revision). e.number ≢ number) o.past → (way : Way) → IsWayBack o number way → ⊥
  no_way none way to =
      let there : o.past ≡ way.nearer ++ way.edit ∷ way.farther = sym (edits_back way.direction o to.back) ∙ to.to.there in
      (AllByRecursion-following (λ (e : Revision). e.number ≢ number) way.nearer (way.edit ∷ way.farther)
      (subst (AllByRecursion (λ (e : Revision). e.number ≢ number)) there none)).0 to.to.for

  module _ (Reverts : Reversal) where
    goes : (found : Option Standing) → FoundAs found → (r : Result (Tool × Edited) Fault) → IsRevertOf number Reverts o c.file r → IsRevertIn Reverts s.present found r
    goes None none r (inl (fault, inl (drifted, inl yes_it_is), e)) = absurd (false≢true (sym by.settled ∙ yes_it_is))
    goes None none r (inl (fault, inl (drifted, inr (settled, (way, to, nothing))), e)) = absurd (no_way none way to)
    goes None none r (inl (fault, inr (is, settled, never), e)) = e ∙ ap Err is
    goes None none r (inr (found, (settled, way, to, at), h)) = absurd (no_way none way to)
    goes (Some e) f r (inl (fault, refused, k)) = absurd (no_both f.found fault (one_standing_edit c.file c.journal o number opens (Ok f.found) (Err fault) f.is refused))
    goes (Some e) f r (inr (found, is, h)) =
        let same = same_value found f.found (one_standing_edit c.file c.journal o number opens (Ok found) (Ok f.found) is f.is) in
        subst (λ t. Reverts t e r) (sym by.present) (subst (λ x. Reverts c.file x r) (ap standing_of same ∙ f.same) h)

    -- what a revert makes of the file it makes of the state's text
    pub reverts_alike : (r : Result (Tool × Edited) Fault) → IsRevertOf number Reverts o c.file r → IsRevertIn Reverts s.present (standing_at number s) r
    reverts_alike r is = goes (standing_at number s) found_as r is
