-- Where an edit that is planned leads.
use Rattle.std.proofs.Common.{◌≡◌, ◌≢◌, ◌∙◌, ℕ, true, Option, Some, None, List, [], ◌∷◌, refl, ap, sym, subst}
use Rattle.std.proofs.lemmas.Bool.{false≢true}
use Rattle.rec_journal.specs.declared.event.Revision.{Revision}
use Rattle.rec_journal.specs.declared.patch.Direction.{Direction}
use Rattle.rec_journal.specs.declared.patch.Direction.TheVariants.{Forward, Backward}
use Rattle.rec_journal.specs.declared.plan.Plan.{Plan}
use Rattle.rec_journal.specs.declared.event.Tool.{Tool}
use Rattle.rec_journal.specs.History.{Opened, Opens}
use Rattle.rec_journal.specs.Revisions.{Leads}
use Rattle.rec_journal.specs.Plans.{ShareDigest, edit_to, edits_on}
use Rattle.rec_journal.specs.Numbers.{is_missing}
use Rattle.rec_journal.proofs.lemmas.histories.Countings.{Opens-digest}
use Rattle.rec_journal.proofs.lemmas.plans.KeptLemmas.{Opens-counts}
use Rattle.rec_journal.proofs.lemmas.plans.PlanLemmas.{nearest_differs}
use Rattle.rec_edit.specs.declared.answer.Edited.{Edited}
use Rattle.rec_tools.specs.Home.{Contents}
use Rattle.rec_tools.specs.Outcomes.{IsPlanned}

-- where there is no edit, none is missing
pub none_missing : (through : Option ℕ) → is_missing through [] ≡ true → ⊥
none_missing None e = false≢true e
none_missing (Some number) e = false≢true e

-- ---- the plan of an edit

same_plan : (one other : Plan) → one.journal ≡ other.journal → one.file ≡ other.file → one ≡ other
same_plan one other journal file =
    let plan_of : List ℕ → List ℕ → Plan = λ j f. record { journal = j; file = f } in
    ap (λ j. plan_of j one.file) journal ∙ ap (plan_of other.journal) file

-- an edit has one plan
pub same_plan_of : (c : Contents) (o : Opened) (tool : Tool) (made : Edited) (one other : Plan)
    → IsPlanned o c tool made one → IsPlanned o c tool made other → one ≡ other
same_plan_of c o tool made one other is is_too =
    same_plan one other (is.planned.2 ∙ sym is_too.planned.2) (is.planned.1 ∙ sym is_too.planned.1)

-- where an edit is planned, its two texts don't share a digest
pub no_clash : (c : Contents) (o : Opened) (tool : Tool) (made : Edited) (plan : Plan) → Opens c.file c.journal o
    → IsPlanned o c tool made plan → ShareDigest c.file made.text → ⊥
no_clash c o tool made plan opens planned same = planned.planned.0 (Opens-digest c.file c.journal o opens ∙ same)

-- ---- where edits lead

-- a planned edit leads back from its text to the file
pub edit_leads_back : (c : Contents) (o : Opened) (tool : Tool) (made : Edited) (plan : Plan) → Opens c.file c.journal o
    → IsPlanned o c tool made plan → Leads Backward (edit_to o tool made.text made.steps) made.text c.file
edit_leads_back c o tool made plan opens planned =
    record { leads = planned.leads; digest_before = sym (Opens-digest c.file c.journal o opens); digest_after = refl }

-- an edit of a history changes the text, either way
apart : (direction : Direction) (e : Revision) (file text : List ℕ) → Leads direction e file text → text ≡ file → e.before ≡ e.after
apart Backward e file text leads same = sym (subst (λ t. Leads Backward e file t) same leads).digest_before ∙ leads.digest_after
apart Forward e file text leads same = sym leads.digest_before ∙ (subst (λ t. Leads Forward e file t) same leads).digest_after

pub move_differs : (file journal : List ℕ) (o : Opened) → Opens file journal o → (direction : Direction) (e : Revision) (others : List Revision) → edits_on direction o ≡ e ∷ others
    → (text : List ℕ) → Leads direction e file text → text ≢ file
move_differs file journal o opens direction e others there text leads same =
    nearest_differs file journal o (Opens-counts file journal o opens) direction e others there (apart direction e file text leads same)

-- what leads back leads on from there
pub leads_on : (e : Revision) (here there : List ℕ) → Leads Backward e here there → Leads Forward e there here
leads_on e here there leads = leads

pub leads_back : (e : Revision) (here there : List ℕ) → Leads Forward e here there → Leads Backward e there here
leads_back e here there leads = leads
