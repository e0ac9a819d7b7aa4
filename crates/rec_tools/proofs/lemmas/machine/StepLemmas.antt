-- What a request comes to on contents that stand for a state is what the machine does in that state.
use Rattle.std.proofs.Common.{◌≡◌, ◌≢◌, ◌⊎◌, inl, inr, ℕ, ◌+◌, ◌-◌, ◌<◌, Bool, List, [], ◌∷◌, length, map, Option, None, Result, Ok, Err, sym, ap, ap₂, subst, refl, ◌∙◌}
use Rattle.std.proofs.lemmas.Bool.{false≢true}
use Rattle.std.specs.Prelude.{true, false, codes, if◌then◌else◌}
use Rattle.rec_text.specs.declared.fault.Fault.{Fault}
use Rattle.rec_text.specs.declared.fault.Fault.TheVariants.{NoSuchEdit}
use Rattle.rec_journal.specs.declared.event.Revision.{Revision}
use Rattle.rec_journal.specs.declared.patch.Direction.{Direction}
use Rattle.rec_journal.specs.declared.patch.Direction.TheVariants.{Forward, Backward}
use Rattle.rec_journal.specs.declared.event.Tool.{Tool}
use Rattle.rec_journal.specs.declared.plan.Plan.{Plan}
use Rattle.rec_journal.specs.History.{Opened, Opens, IsOpening, lost_edits}
use Rattle.rec_journal.specs.Revisions.{Leads}
use Rattle.rec_journal.specs.Plans.{ShareDigest, edit_to, after_edit_plan, edits_on, after_move, LeadsNowhere}
use Rattle.rec_journal.specs.Numbers.{numbers_on, is_missing}
use Rattle.rec_journal.proofs.lemmas.patches.StepLemmas.{edits_lead_to_one_text}
use Rattle.rec_edit.specs.declared.answer.Edited.{Edited}
use Rattle.rec_tools.specs.declared.request.Reply.{Reply}
use Rattle.rec_tools.specs.declared.request.Reply.TheVariants.{Shown, Drifted as HasDrifted, Edited as EditedReply, Unchanged, Reverted, Forgotten, Written}
use Rattle.rec_tools.specs.Home.{Contents}
use Rattle.rec_tools.specs.Steps.{Then}
use Rattle.rec_tools.specs.Printouts.{history_text, printed_history, history_reply}
use Rattle.rec_tools.specs.Asked.{Printout, AskedChange, editing, moving, reverting, forgetting, adopting, writing, Asked, looking, listing, showing, listing_changes, changing, previewing}
use Rattle.rec_tools.specs.Asked.{Making, Reading, Reversal}
use Rattle.rec_tools.specs.Requests.{asked_of}
use Rattle.rec_tools.specs.Reverting.{IsRevertOf}
use Rattle.rec_tools.specs.Outcomes.{Outcome, IsChangeOutcome, IsRequestOutcome, IsPrinting, IsEditOutcome, IsPutOn, IsPutBy, IsPlanned, IsMove, IsMoveOutcome, IsLetGo, IsForgetting}
use Rattle.rec_tools.specs.Outcomes.{Forgets, IsAdoption, edit_reply, revert_reply, write_reply, printing, staying, putting, reply_of}
use Rattle.rec_tools.specs.Machine.{IsChangeStep, IsPutStep, IsMadeStep, IsRevertIn, IsMoveStep}
use Rattle.rec_tools.specs.Stands.{AreEntries, Stands}
use Rattle.rec_tools.specs.Answers.{Clashes}
use Rattle.rec_tools.specs.States.{Entry, State, standing_at, entries_on, numbers_in, state_history, state_after_edit, state_after_move, state_after_forgetting, lost_entries}
use Rattle.rec_tools.specs.Guarantee.{StepsAsMachine, OutcomesAreSteps}
use Rattle.rec_tools.proofs.lemmas.machine.StandsLemmas.{StandsBy, stands_by, can_be_opened}
use Rattle.rec_tools.specs.Attempts.{Answer}
use Rattle.rec_tools.proofs.lemmas.machine.StandingLemmas.{reverts_alike}
use Rattle.rec_tools.proofs.lemmas.outcomes.FromLemmas.{from_file}
use Rattle.rec_tools.proofs.lemmas.machine.ShowingLemmas.{shows_step, logs_step, previews_step}
use Rattle.rec_tools.proofs.lemmas.outcomes.OpeningLemmas.{edit_leads_back, leads_on, leads_back, none_missing}
use Rattle.rec_tools.proofs.lemmas.machine.ForgettingLemmas.{as_many_edits, stands_after_forgetting}

-- ---- the history that is printed

abbrev pair : ℕ → Tool → ℕ × Tool
pair number tool = (number, tool)

abbrev of_edit : Revision → ℕ × Tool
of_edit e = (e.number, e.tool)

abbrev of_entry : Entry → ℕ × Tool
of_entry entry = (entry.number, entry.tool)

-- edits and their entries are printed alike
printed_alike : (direction : Direction) (es : List Revision) (entries : List Entry) (here : List ℕ) → AreEntries direction es entries here
    → map of_edit es ≡ map of_entry entries
printed_alike direction [] [] here are = refl
printed_alike direction [] (entry ∷ entries) here are = absurd are
printed_alike direction (e ∷ es) [] here are = absurd are
printed_alike direction (e ∷ es) (entry ∷ entries) here are =
    ap₂ (λ x xs. x ∷ xs) (ap₂ pair are.0 are.1) (printed_alike direction es entries entry.text are.4)

-- and have the same numbers
pub numbered_alike : (direction : Direction) (es : List Revision) (entries : List Entry) (here : List ℕ) → AreEntries direction es entries here
    → map (λ (e : Revision). e.number) es ≡ numbers_in entries
numbered_alike direction [] [] here are = refl
numbered_alike direction [] (entry ∷ entries) here are = absurd are
numbered_alike direction (e ∷ es) [] here are = absurd are
numbered_alike direction (e ∷ es) (entry ∷ entries) here are = ap₂ (λ n ns. n ∷ ns) are.0 (numbered_alike direction es entries entry.text are.4)

-- where the number that is named is missing, the machine refuses the move
missing_step : (direction : Direction) (through : Option ℕ) (s : State) (entries : List Entry) (fault : Fault)
    → is_missing through (numbers_in entries) ≡ true → fault ≡ NoSuchEdit → IsMoveStep direction through s entries (Err fault) s
missing_step direction through s [] fault missing e = absurd (none_missing through missing)
missing_step direction through s (nearest ∷ others) fault missing e = inl (missing, ap Err e, refl)

-- ---- the nearest entry that way

-- the entry of the nearest edit that way, and the entries of the others
pub record HasNearest (direction : Direction) (s : State) (here : List ℕ) (nearest : Revision) (others : List Revision) : Type 0 where
  pub entry : Entry
  pub entries : List Entry
  pub are : entries_on direction s ≡ entry ∷ entries
  pub number : nearest.number ≡ entry.number
  pub tool : nearest.tool ≡ entry.tool
  pub steps : nearest.steps ≡ entry.steps
  pub leads : Leads direction nearest here entry.text
  pub after : AreEntries direction others entries entry.text

nearest_of : (direction : Direction) (s : State) (here : List ℕ) (nearest : Revision) (others : List Revision) (entries : List Entry)
    → entries_on direction s ≡ entries → AreEntries direction (nearest ∷ others) entries here → HasNearest direction s here nearest others
nearest_of direction s here nearest others [] e are = absurd are
nearest_of direction s here nearest others (entry ∷ entries) e are =
    record { entry = entry; entries = entries; are = e; number = are.0; tool = are.1; steps = are.2; leads = are.3; after = are.4 }

no_entries : (direction : Direction) (entries : List Entry) (here : List ℕ) → AreEntries direction [] entries here → entries ≡ []
no_entries direction [] here are = refl
no_entries direction (entry ∷ entries) here are = absurd are

-- the entries that way are those of the edits that way
are_on : (direction : Direction) (o : Opened) (c : Contents) (s : State) → StandsBy o c s
    → AreEntries direction (edits_on direction o) (entries_on direction s) c.file
are_on Backward o c s by = by.past
are_on Forward o c s by = by.future

has_nearest : (direction : Direction) (o : Opened) (c : Contents) (s : State) (nearest : Revision) (others : List Revision) → StandsBy o c s
    → edits_on direction o ≡ nearest ∷ others → HasNearest direction s c.file nearest others
has_nearest direction o c s nearest others by there =
    nearest_of direction s c.file nearest others (entries_on direction s) refl
    (subst (λ es. AreEntries direction es (entries_on direction s) c.file) there (are_on direction o c s by))

-- the contents after a move stand for the state after it
stands_after_move : (direction : Direction) (o : Opened) (c after : Contents) (s : State) (nearest : Revision) (others : List Revision)
    → (by : StandsBy o c s) (has : HasNearest direction s c.file nearest others) → after.file ≡ has.entry.text
    → Opens after.file after.journal (after_move direction o c.journal nearest others)
    → Stands after (state_after_move direction s has.entry has.entries)
stands_after_move Backward o c after s nearest others by has text opens = record {
  opened = after_move Backward o c.journal nearest others;
  opens = opens;
  settled = refl;
  present = sym text;
  past = subst (λ t. AreEntries Backward others has.entries t) (sym text) has.after;
  future = (
    has.number,
    has.tool,
    has.steps,
    subst (λ t. Leads Forward nearest t s.present) (sym text)
        (subst (λ t. Leads Forward nearest has.entry.text t) (sym by.present) (leads_on nearest c.file has.entry.text has.leads)),
    subst (λ t. AreEntries Forward o.future s.future t) (sym by.present) by.future,
  );
  next = ap (λ n. n + 1) by.next;
  made = by.made;
}
stands_after_move Forward o c after s nearest others by has text opens = record {
  opened = after_move Forward o c.journal nearest others;
  opens = opens;
  settled = refl;
  present = sym text;
  past = (
    has.number,
    has.tool,
    has.steps,
    subst (λ t. Leads Backward nearest t s.present) (sym text)
        (subst (λ t. Leads Backward nearest has.entry.text t) (sym by.present) (leads_back nearest c.file has.entry.text has.leads)),
    subst (λ t. AreEntries Backward o.past s.past t) (sym by.present) by.past,
  );
  future = subst (λ t. AreEntries Forward others has.entries t) (sym text) has.after;
  next = ap (λ n. n + 1) by.next;
  made = by.made;
}

-- ---- what is asked for, on contents that stand for a state

module _ (c : Contents) (s : State) (stands : Stands c s) where
  no_refusal : (fault : Fault) → IsOpening c.file c.journal (Err fault) → ⊥
  no_refusal = can_be_opened c s stands

  by_opening : (o : Opened) → Opens c.file c.journal o → StandsBy o c s
  by_opening o opens = stands_by c s o stands opens

  looks_step : (IsText : List ℕ → Result Printout Fault → Type 0) (r : Result Outcome Fault)
      → IsPrinting (IsText c.file) r → StepsAsMachine c s (looking IsText) r
  looks_step IsText (Ok outcome) (p, is, e) =
      subst (λ x. StepsAsMachine c s (looking IsText) (Ok x)) (sym e)
      (s, (Ok p, subst (λ text. IsText text (Ok p)) (sym stands.present) is, (refl, refl), refl), stands)
  looks_step IsText (Err fault) is = inl (Err fault, subst (λ text. IsText text (Err fault)) (sym stands.present) is, (refl, refl), refl)

  -- ---- the history

  printed_as_listed : (o : Opened) → StandsBy o c s → printed_history o ≡ state_history s
  printed_as_listed o by =
      ap (λ b. if b then codes "drifted\n" else history_text (map of_edit o.past) (map of_edit o.future)) by.settled
      ∙ ap₂ history_text (printed_alike Backward o.past s.past c.file by.past) (printed_alike Forward o.future s.future c.file by.future)

  lists_step : (r : Result Outcome Fault)
      → Then (IsOpening c.file c.journal) (λ o given. given ≡ Ok (printing (printed_history o) (history_reply o))) r → StepsAsMachine c s listing r
  lists_step r (inl (fault, refused, e)) = absurd (no_refusal fault refused)
  lists_step r (inr (o, opens, e)) =
      subst (λ x. StepsAsMachine c s listing x) (sym e)
      (s, (ap (λ b. Ok (if b then HasDrifted else Shown)) (by_opening o opens).settled, printed_as_listed o (by_opening o opens), refl), stands)

  -- ---- an edit

  read_present : {A X : Type 0} (Reads : Reading X) (next : Result A Fault → Type 0) (r : Result A Fault) → Then (Reads c.file) (λ _. next) r → Then (Reads s.present) (λ _. next) r
  read_present Reads next r is = subst (λ text. Then (Reads text) (λ _. next) r) (sym stands.present) is

  -- where a change is a step by what is made of the state's text
  module _ (change : AskedChange) (Makes : Result (Tool × Edited) Fault → Type 0) (reply_for : Tool → Edited → Reply)
      (steps : (answer : Answer) (t : State) → IsPutStep s reply_for Makes answer t → IsChangeStep s change answer t) where
    made_refused : (fault : Fault) → Makes (Err fault) → StepsAsMachine c s (changing change) (Err fault)
    made_refused fault is = inl (steps (Err fault) s (Err fault, is, (refl, refl)), refl)

    module _ (tool : Tool) (made : Edited) (is : Makes (Ok (tool, made))) where
      module _ (differs : made.text ≢ c.file) where
        other : made.text ≢ s.present
        other same = differs (same ∙ stands.present)

        step : IsPutStep s reply_for Makes (Ok (reply_for tool made)) (state_after_edit s tool made.steps made.text)
        step = (Ok (tool, made), is, inr (other, refl, refl))

        clashes : ShareDigest c.file made.text → Clashes s (changing change)
        clashes same = record {
          reply = reply_for tool made;
          later = state_after_edit s tool made.steps made.text;
          step = steps (Ok (reply_for tool made)) (state_after_edit s tool made.steps made.text) step;
          differ = other;
          same_digest = subst (λ t. ShareDigest t made.text) (sym stands.present) same;
        }

      stands_after_edit : (o : Opened) (plan : Plan) → Opens c.file c.journal o → IsPlanned o c tool made plan
          → Stands (record { file = plan.file; journal = plan.journal }) (state_after_edit s tool made.steps made.text)
      stands_after_edit o plan opens planned =
          let by = by_opening o opens in
          let edit = edit_to o tool made.text made.steps in
          record {
            opened = after_edit_plan o c.journal tool made.steps made.text;
            opens = planned.safe.next;
            settled = refl;
            present = sym planned.planned.1;
            past = (
              sym by.next,
              refl,
              refl,
              subst (λ t. Leads Backward edit t s.present) (sym planned.planned.1)
                  (subst (λ t. Leads Backward edit made.text t) (sym by.present) (edit_leads_back c o tool made plan opens planned)),
              subst (λ t. AreEntries Backward o.past s.past t) (sym by.present) by.past,
            );
            future = tt;
            next = ap (λ n. n + 1) by.next;
            made = ap (λ n. n + 1) by.made;
          }

      edit_steps : (o : Opened) (reply : Reply) → reply ≡ reply_for tool made → (r : Result Outcome Fault) → Opens c.file c.journal o → IsEditOutcome o c tool made reply r
          → StepsAsMachine c s (changing change) r
      edit_steps o reply told (Ok outcome) opens (inl (same, e)) =
          subst (λ x. StepsAsMachine c s (changing change) (Ok x)) (sym e)
          (s, (steps (Ok (Unchanged made.chosen)) s (Ok (tool, made), is, inl (same ∙ sym stands.present, refl, refl)), refl), stands)
      edit_steps o reply told (Ok outcome) opens (inr (differs, (plan, planned, e))) =
          let after : State = state_after_edit s tool made.steps made.text in
          subst (λ x. StepsAsMachine c s (changing change) (Ok x)) (sym (e ∙ ap (putting plan) told))
          (after, (steps (Ok (reply_for tool made)) after (step differs), refl), stands_after_edit o plan opens planned)
      edit_steps o reply told (Err fault) opens (differs, e, same) = inr (e, clashes differs same)

    -- it is what is put in place, by the history for which the contents stand
    module _ (MakesOf : Opened → Result (Tool × Edited) Fault → Type 0) (replies : Opened → Tool → Edited → Reply)
        (goes : (o : Opened) → Opens c.file c.journal o → (r : Result (Tool × Edited) Fault) → MakesOf o r → Makes r)
        (alike : (o : Opened) → Opens c.file c.journal o → (tool : Tool) (made : Edited) → replies o tool made ≡ reply_for tool made) where
      put_step : (r : Result Outcome Fault) → IsPutOn MakesOf replies c r → StepsAsMachine c s (changing change) r
      put_step r (inl (fault, refused, e)) = absurd (no_refusal fault refused)
      put_step r (inr (o, opens, inl (fault, refused, e))) = subst (λ x. StepsAsMachine c s (changing change) x) (sym e) (made_refused fault (goes o opens (Err fault) refused))
      put_step r (inr (o, opens, inr ((tool, made), done, last))) =
          edit_steps tool made (goes o opens (Ok (tool, made)) done) o (replies o tool made) (alike o opens tool made) r opens last

  -- the same of a text that can be read
  module _ {X : Type 0} (change : AskedChange) (Reads : Reading X) (Makes : Result (Tool × Edited) Fault → Type 0) (reply_for : Tool → Edited → Reply)
      (steps : (answer : Answer) (t : State) → IsMadeStep s Reads reply_for Makes answer t → IsChangeStep s change answer t)
      (MakesOf : Opened → Result (Tool × Edited) Fault → Type 0) (replies : Opened → Tool → Edited → Reply)
      (goes : (o : Opened) → Opens c.file c.journal o → (r : Result (Tool × Edited) Fault) → MakesOf o r → Makes r)
      (alike : (o : Opened) → Opens c.file c.journal o → (tool : Tool) (made : Edited) → replies o tool made ≡ reply_for tool made) where
    abbrev MakesRead : Result (Tool × Edited) Fault → Type 0
    MakesRead = Then (Reads s.present) (λ _. Makes)

    made_step : (r : Result Outcome Fault) → IsPutBy Reads MakesOf replies c r → StepsAsMachine c s (changing change) r
    made_step r (inl (fault, refused, e)) =
        subst (λ x. StepsAsMachine c s (changing change) x) (sym e)
        (made_refused change MakesRead reply_for steps fault (read_present Reads Makes (Err fault) (inl (fault, refused, refl))))
    made_step r (inr (text, is, put)) =
        put_step change MakesRead reply_for steps MakesOf replies
        (λ o opens told h. read_present Reads Makes told (inr (text, is, goes o opens told h))) alike r put

  edits_step : {X : Type 0} (Reads : Reading X) (Makes : Making) (r : Result Outcome Fault) → IsChangeOutcome c (editing Reads Makes) r
      → StepsAsMachine c s (changing (editing Reads Makes)) r
  edits_step Reads Makes r is =
      made_step (editing Reads Makes) Reads (Makes s.present) (edit_reply s.next 0) (λ answer t h. h)
      (λ _. Makes c.file) (λ o. edit_reply o.next o.dropped)
      (λ o opens made h. subst (λ text. Makes text made) (sym stands.present) h)
      (λ o opens tool made. (let by = by_opening o opens in ap₂ (EditedReply made.changed) (sym by.next) by.none_dropped)) r is

  reverts_step : {X : Type 0} (Reads : Reading X) (number : ℕ) (Reverts : Reversal) (r : Result Outcome Fault) → IsChangeOutcome c (reverting Reads number Reverts) r
      → StepsAsMachine c s (changing (reverting Reads number Reverts)) r
  reverts_step Reads number Reverts r is =
      made_step (reverting Reads number Reverts) Reads (IsRevertIn Reverts s.present (standing_at number s)) (revert_reply number s.next) (λ answer t h. h)
      (λ o. IsRevertOf number Reverts o c.file) (λ o. revert_reply number o.next)
      (λ o opens made h. reverts_alike o c s (by_opening o opens) opens number Reverts made h)
      (λ o opens tool made. ap (Reverted number tool) (sym (by_opening o opens).next)) r is

  -- ---- a whole text

  writes_step : (Makes : Making) (r : Result Outcome Fault) → IsChangeOutcome c (writing Makes) r → StepsAsMachine c s (changing (writing Makes)) r
  writes_step Makes r is =
      put_step (writing Makes) (Makes s.present) (write_reply s.next 0) (λ answer t h. h)
      (λ _. Makes c.file) (λ o. write_reply o.next o.dropped)
      (λ o opens told h. subst (λ here. Makes here told) (sym stands.present) h)
      (λ o opens tool made. (let by = by_opening o opens in ap₂ Written (sym by.next) by.none_dropped)) r is

  -- ---- a move

  module _ (direction : Direction) (through : Option ℕ) (o : Opened) (opens : Opens c.file c.journal o) where
    by : StandsBy o c s
    by = by_opening o opens

    same_numbers : numbers_on direction o ≡ numbers_in (entries_on direction s)
    same_numbers = numbered_alike direction (edits_on direction o) (entries_on direction s) c.file (are_on direction o c s by)

    moved : (outcome : Outcome) → is_missing through (numbers_on direction o) ≡ false → IsMoveOutcome direction o c outcome
        → StepsAsMachine c s (changing (moving direction through)) (Ok outcome)
    moved outcome here m =
        let has = has_nearest direction o c s m.moves.nearest m.moves.others by m.moves.there in
        let t = state_after_move direction s has.entry has.entries in
        let nearest = m.moves.nearest in
        let reply = reply_of direction nearest.number nearest.tool in
        subst (λ x. StepsAsMachine c s (changing (moving direction through)) (Ok x)) (sym m.is) (
          t,
          (
            subst (λ es. IsMoveStep direction through s es (Ok reply) t) (sym has.are) (inr (
              subst (λ ns. is_missing through ns ≡ false) (same_numbers ∙ ap numbers_in has.are) here,
              ap₂ (λ n tool. Ok (reply_of direction n tool)) has.number has.tool,
              refl,
            )),
            refl,
          ),
          stands_after_move direction o c (record { file = m.plan.file; journal = m.plan.journal }) s m.moves.nearest m.moves.others by has
              (edits_lead_to_one_text direction m.moves.nearest c.file m.plan.file has.entry.text m.moves.leads has.leads) m.safe.next,
        )

    no_drift : (o.drifted ≡ true) ⊎ ((o.drifted ≡ false) × LeadsNowhere direction o c.file) → ⊥
    no_drift (inl drifted) = false≢true (sym by.settled ∙ drifted)
    no_drift (inr (settled, nowhere)) =
        let has = has_nearest direction o c s nowhere.nearest nowhere.others by nowhere.there in
        nowhere.none has.entry.text has.leads

    move_steps : (r : Result Outcome Fault) → IsMove direction through o c r → StepsAsMachine c s (changing (moving direction through)) r
    move_steps (Ok outcome) (settled, here, m) = moved outcome here m
    move_steps (Err fault) (inl (e, settled, missing)) =
        inl (missing_step direction through s (entries_on direction s) fault (subst (λ ns. is_missing through ns ≡ true) same_numbers missing) e, refl)
    move_steps (Err fault) (inr (here, inl (e, drifted))) = absurd (no_drift drifted)
    move_steps (Err fault) (inr (here, inr (e, settled, nothing))) =
        let none : entries_on direction s ≡ [] =
        no_entries direction (entries_on direction s) c.file
        (subst (λ es. AreEntries direction es (entries_on direction s) c.file) nothing (are_on direction o c s by)) in
        inl (subst (λ es. IsMoveStep direction through s es (Err fault) s) (sym none) (ap Err e, refl), refl)

  moves_step : (direction : Direction) (through : Option ℕ) (r : Result Outcome Fault) → Then (IsOpening c.file c.journal) (λ o. IsMove direction through o c) r
      → StepsAsMachine c s (changing (moving direction through)) r
  moves_step direction through r (inl (fault, refused, e)) = absurd (no_refusal fault refused)
  moves_step direction through r (inr (o, opens, move)) = move_steps direction through o opens r move

  -- ---- forgetting

  module _ (n : ℕ) (dropping : Bool) (o : Opened) (opens : Opens c.file c.journal o) where
    history : StandsBy o c s
    history = by_opening o opens

    as_many : length o.past ≡ length s.past
    as_many = as_many_edits Backward o.past s.past c.file history.past

    abbrev older : ℕ
    older = length s.past - n

    abbrev dropped : ℕ
    dropped = if dropping then lost_entries s else 0

    abbrev left : ℕ
    left = length s.past - older

    lost_alike : lost_edits o ≡ lost_entries s
    lost_alike =
        ap (λ k. k - (length o.past + length o.future)) (sym history.made)
        ∙ ap₂ (λ past future. s.made - (past + future)) as_many (as_many_edits Forward o.future s.future c.file history.future)

    -- the same edits go of the history and of the machine
    let_go_alike : (outcome : Outcome) → IsLetGo (length o.past - n) (if dropping then lost_edits o else 0) o c outcome
        → ((older + dropped ≡ 0) × (outcome ≡ staying (Forgotten older dropped))) ⊎ ((0 < older + dropped) × Forgets left o c (Forgotten older dropped) outcome)
    let_go_alike outcome goes =
        let of_dropped = subst (λ k. IsLetGo (length o.past - n) (if dropping then k else 0) o c outcome) lost_alike goes in
        subst (λ k. ((k - n + dropped ≡ 0) × (outcome ≡ staying (Forgotten (k - n) dropped))) ⊎ ((0 < k - n + dropped) × Forgets (k - (k - n)) o c (Forgotten (k - n) dropped) outcome))
        as_many of_dropped

    forgotten : (outcome : Outcome) → 0 < older + dropped → Forgets left o c (Forgotten older dropped) outcome → StepsAsMachine c s (changing (forgetting n dropping)) (Ok outcome)
    forgotten outcome some f =
        subst (λ x. StepsAsMachine c s (changing (forgetting n dropping)) (Ok x)) (sym f.is)
        (state_after_forgetting left s, ((refl, inr (some, refl)), refl), stands_after_forgetting left o c s history f.opens)

    stayed : (outcome : Outcome) → older + dropped ≡ 0 → outcome ≡ staying (Forgotten older dropped) → StepsAsMachine c s (changing (forgetting n dropping)) (Ok outcome)
    stayed outcome none e = subst (λ x. StepsAsMachine c s (changing (forgetting n dropping)) (Ok x)) (sym e) (s, ((refl, inl (none, refl)), refl), stands)

    forgetting_steps : (r : Result Outcome Fault) → IsForgetting n dropping o c r → StepsAsMachine c s (changing (forgetting n dropping)) r
    forgetting_steps (Ok outcome) (settled, goes) =
        elim (let_go_alike outcome goes) [
          | inl stays ↦ stayed outcome stays.0 stays.1
          | inr writes ↦ forgotten outcome writes.0 writes.1
        ]
    forgetting_steps (Err fault) (e, drifted) = absurd (false≢true (sym history.settled ∙ drifted))

  forgets_step : (n : ℕ) (dropping : Bool) (r : Result Outcome Fault) → Then (IsOpening c.file c.journal) (λ o. IsForgetting n dropping o c) r
      → StepsAsMachine c s (changing (forgetting n dropping)) r
  forgets_step n dropping r (inl (fault, refused, e)) = absurd (no_refusal fault refused)
  forgets_step n dropping r (inr (o, opens, forgets)) = forgetting_steps n dropping o opens r forgets

  -- ---- an adoption

  adopts_step : (old : Option (List ℕ)) (r : Result Outcome Fault) → Then (IsOpening c.file c.journal) (λ o. IsAdoption old o c) r → StepsAsMachine c s (changing (adopting old)) r
  adopts_step old r (inl (fault, refused, e)) = absurd (no_refusal fault refused)
  adopts_step old (Ok outcome) (inr (o, opens, inl (settled, e))) =
      subst (λ x. StepsAsMachine c s (changing (adopting old)) (Ok x)) (sym e) (s, ((refl, refl), refl), stands)
  adopts_step old (Ok outcome) (inr (o, opens, inr (drifted, adopts))) = absurd (false≢true (sym (by_opening o opens).settled ∙ drifted))
  adopts_step old (Err fault) (inr (o, opens, (drifted, none))) = absurd (false≢true (sym (by_opening o opens).settled ∙ drifted))

  -- what comes of a change leads from the file
  from_here : (change : AskedChange) (outcome : Outcome) → IsChangeOutcome c change (Ok outcome) → outcome.from ≡ None
  from_here change outcome is =
      elim (from_file c change outcome is) [
        | inl none ↦ none
        | inr adopted ↦ absurd (false≢true (sym (by_opening adopted.opened adopted.opens).settled ∙ adopted.drifted))
      ]

-- whatever a change comes to on contents that stand for a state, the machine steps so
pub changes_are_steps : (c : Contents) (s : State) (change : AskedChange) (r : Result Outcome Fault)
    → Stands c s → IsChangeOutcome c change r → StepsAsMachine c s (changing change) r
changes_are_steps c s (editing Reads Makes) r stands is = edits_step c s stands Reads Makes r is
changes_are_steps c s (moving direction through) r stands is = moves_step c s stands direction through r is
changes_are_steps c s (reverting Reads number Reverts) r stands is = reverts_step c s stands Reads number Reverts r is
changes_are_steps c s (forgetting n dropping) r stands is = forgets_step c s stands n dropping r is
changes_are_steps c s (adopting old) r stands is = adopts_step c s stands old r is
changes_are_steps c s (writing Makes) r stands is = writes_step c s stands Makes r is

-- and so it does for all that is asked for
pub outcomes_are_steps : (c : Contents) (s : State) (asked : Asked) (r : Result Outcome Fault)
    → Stands c s → IsRequestOutcome c asked r → StepsAsMachine c s asked r
outcomes_are_steps c s (looking IsText) r stands is = looks_step c s stands IsText r is
outcomes_are_steps c s listing r stands is = lists_step c s stands r is
outcomes_are_steps c s (showing number Tells) r stands is = shows_step c s stands number Tells r is
outcomes_are_steps c s (listing_changes Tells) r stands is = logs_step c s stands Tells r is
outcomes_are_steps c s (changing change) r stands is = changes_are_steps c s change r stands is
outcomes_are_steps c s (previewing Tells change) r stands is = previews_step c s stands Tells change (from_here c s stands change) (λ r is. changes_are_steps c s change r stands is) r is

pub of_requests : OutcomesAreSteps
of_requests c s request r stands is = outcomes_are_steps c s (asked_of request) r stands is
