-- What is printed for a preview.
use Rattle.std.proofs.Common.{arith, ◌≡◌, inl, inr, ℕ, List, [], Option, Some, None, Result, Ok, Err, sym, subst, refl}
use Rattle.std.proofs.KnownBytes.{Appends-nil}
use Rattle.rec_text.specs.declared.fault.Fault.{Fault}
use Rattle.rec_text.specs.Faults.{IsMemoryOr}
use Rattle.rec_journal.specs.declared.event.Revision.{Revision}
use Rattle.rec_journal.specs.declared.patch.Direction.{Direction}
use Rattle.rec_journal.specs.declared.patch.Direction.TheVariants.{Forward, Backward}
use Rattle.rec_journal.specs.Direction.{Along}
use Rattle.rec_journal.specs.Revisions.{Leads, LeadsBy}
use Rattle.rec_select.specs.Taken.{PrintsAndCounts, Puts}
use Rattle.rec_diff.specs.declared.style.DiffStyle.{DiffStyle}
use Rattle.rec_diff.specs.Diffs.{IsDiff}
use Rattle.rec_diff.proofs.lemmas.DiffLemmas.{no_refused_diff}
use Rattle.rec_tools.specs.declared.decision.Decision.{Decision}
use Rattle.rec_tools.specs.declared.decision.Decision.TheVariants.{Stay, Put, Adopt}
use Rattle.rec_tools.specs.declared.request.Reply.{Reply}
use Rattle.rec_tools.specs.declared.request.Change.{Change}
use Rattle.rec_tools.specs.Printouts.{PutsPrintout}
use Rattle.rec_tools.specs.Requests.{change_of, as_diff}
use Rattle.rec_tools.specs.Asked.{AskedChange, previewing}
use Rattle.rec_tools.specs.Outcomes.{Outcome, IsChangeOutcome, IsRequestOutcome, IsPrinting, printing, outcome_of, reply_in}
use Rattle.rec_tools.specs.proving.Courses.{contents, HasCourse, LeadsSo, IsTextOf, IsDecisionText, IsPreviewed}
use Rattle.rec_text.proofs.lemmas.FaultLemmas.{no_both, same_value}
use Rattle.rec_tools.proofs.lemmas.outcomes.StoreLemmas.{no_store_change}
use Rattle.rec_tools.proofs.lemmas.printing.PutsLemmas.{PutsPrintout-err, refused_before, refused_within, printed_all}

-- what is printed of a decision is printed for the preview
pub decided-previewed : (style : DiffStyle) (file journal : List ℕ) (change : AskedChange) (decision : Decision) → IsChangeOutcome (contents file journal) change (Ok (outcome_of decision))
    → HasCourse file journal decision → (text : List ℕ) → IsDecisionText style file decision (Ok text)
    → IsRequestOutcome (contents file journal) (previewing (as_diff style) change) (Ok (printing text (reply_in decision)))
decided-previewed style file journal change (Stay reply) is course text e =
    (outcome_of (Stay reply), is, record { text = inl (refl, same_value text [] e); writes = refl; reply = refl; from = refl })
decided-previewed style file journal change (Put put None reply) is course text e =
    (outcome_of (Put put None reply), is, record { text = inl (refl, same_value text [] e); writes = refl; reply = refl; from = refl })
decided-previewed style file journal change (Put put (Some new) reply) is (e, across, steps) text diff = (
  outcome_of (Put put (Some new) reply),
  is,
  record {
    text = inr (new.direction, e, across, subst (λ ss. IsDiff new.direction style ss file new.text (Ok text)) steps diff);
    writes = refl;
    reply = refl;
    from = refl;
  },
)
decided-previewed style file journal change (Adopt put from steps reply) is (e, leads, same) text diff = (
  outcome_of (Adopt put from steps reply),
  is,
  record {
    text = (e, leads, subst (λ ss. IsDiff Forward style ss from file (Ok text)) same diff);
    writes = refl;
    reply = refl;
    from = refl;
  },
)

no_refused_decision : (style : DiffStyle) (file : List ℕ) (decision : Decision) (fault : Fault) → IsDecisionText style file decision (Err fault) → ⊥
no_refused_decision style file (Stay reply) fault e = no_both {A = List ℕ} [] fault (sym e)
no_refused_decision style file (Put put None reply) fault e = no_both {A = List ℕ} [] fault (sym e)
no_refused_decision style file (Put put (Some new) reply) fault diff = no_refused_diff new.direction style new.steps file new.text fault diff
no_refused_decision style file (Adopt put from steps reply) fault diff = no_refused_diff Forward style steps from file fault diff

-- its steps lead from the file, or back to it
pub course-leads : (file journal : List ℕ) (decision : Decision) → HasCourse file journal decision → LeadsSo file decision
course-leads file journal (Stay reply) course = tt
course-leads file journal (Put put None reply) course = tt
course-leads file journal (Adopt put from steps reply) (e, leads, same) = subst (λ ss. LeadsBy ss from file) (sym same) leads.leads.leads
course-leads file journal (Put put (Some new) reply) (e, across, steps) =
    subst (λ ss. Along new.direction (LeadsBy ss) file new.text) (sym steps) (related new.direction e file new.text across.leads)
  where
    related : (direction : Direction) (e : Revision) (here there : List ℕ) → Leads direction e here there → Along direction (LeadsBy e.steps) here there
    related Backward e here there leads = leads.leads
    related Forward e here there leads = leads.leads

-- nothing is printed of no new file
pub nothing_written : {S : Type 0} {told : S → Option (List ℕ)} {failures : S → ℕ} {X : Type 0} (style : DiffStyle) (file : List ℕ) (out : S) (done : X)
    → PrintsAndCounts told failures out out (Puts (IsTextOf style file None)) (Ok done)
nothing_written {told = told} style file out done =
    record { printed = ([], refl, Appends-nil (told out)); counted = omega arith; told = inr refl; store_failed = λ failed. cc }

module _ {S : Type 0} {told : S → Option (List ℕ)} {failures : S → ℕ} (style : DiffStyle) (file journal : List ℕ) (change : Change) where
  pub preview-refused : (out : S) (fault : Fault) → IsMemoryOr fault (IsChangeOutcome (contents file journal) (change_of change) (Err fault))
      → PrintsAndCounts told failures out out (PutsPrintout (IsPreviewed style file journal (change_of change))) (Err fault)
  preview-refused out fault h = refused_before (IsPreviewed style file journal (change_of change)) out fault (no_store_change change (contents file journal)) h

  module _ (decision : Decision) (is : IsChangeOutcome (contents file journal) (change_of change) (Ok (outcome_of decision))) (course : HasCourse file journal decision) {old new : S} where
    pub preview-cut_short : (X : Type 0) (fault : Fault) → PrintsAndCounts told failures old new (Puts {X = X} (IsDecisionText style file decision)) (Err fault)
        → PrintsAndCounts told failures old new (PutsPrintout (IsPreviewed style file journal (change_of change))) (Err fault)
    preview-cut_short X fault h =
        refused_within h (PutsPrintout-err X (IsDecisionText style file decision) (IsPreviewed style file journal (change_of change)) _ _ fault
        (λ text printed. (reply_in decision, decided-previewed style file journal (change_of change) decision is course text printed))
        (λ f refused. absurd (no_refused_decision style file decision f refused)))

    pub preview-whole : (X : Type 0) (done : X) (reply : Reply) → reply ≡ reply_in decision → PrintsAndCounts told failures old new (Puts (IsDecisionText style file decision)) (Ok done)
        → PrintsAndCounts told failures old new (PutsPrintout (IsPreviewed style file journal (change_of change))) (Ok reply)
    preview-whole X done reply same h =
        rw same (printed_all h (λ printed. (printed.0, decided-previewed style file journal (change_of change) decision is course printed.0 printed.1, printed.2)))

pub previewed-outcome : (style : DiffStyle) (change : AskedChange) (file journal : List ℕ) (r : Result Outcome Fault) → IsPrinting (IsPreviewed style file journal change) r
    → IsRequestOutcome (record { file = file; journal = journal }) (previewing (as_diff style) change) r
previewed-outcome style change file journal (Ok outcome) (p, is, e) =
    subst (λ x. IsRequestOutcome (record { file = file; journal = journal }) (previewing (as_diff style) change) (Ok x)) (sym e) is
previewed-outcome style change file journal (Err fault) is = is
