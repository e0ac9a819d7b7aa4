-- What `check` puts out: its report, or a prefix of it where that is cut short.
use Rattle.std.proofs.Common.{◌≡◌, inl, inr, ℕ, List, Option, Ok, Err, refl, subst, sym}
use Rattle.rec_text.specs.declared.fault.Fault.{Fault}
use Rattle.rec_text.specs.declared.fault.Fault.TheVariants.{StoreFailed}
use Rattle.rec_text.specs.Faults.{IsMemoryOr}
use Rattle.rec_text.specs.declared.violations.Violation.{Violation}
use Rattle.rec_text.specs.Reading.{IsReading}
use Rattle.rec_check.specs.Schemas.{IsSchema}
use Rattle.rec_check.specs.DescribedTexts.{DescribedText, IsDescribedText}
use Rattle.rec_check.specs.Violations.{AreViolations, AreViolationsOf}
use Rattle.rec_select.specs.Taken.{PrintsAndCounts, Puts}
use Rattle.rec_select.specs.Report.{IsReport, report}
use Rattle.rec_tools.specs.declared.request.Reply.{Reply}
use Rattle.rec_tools.specs.Printouts.{IsReportText, PutsPrintout, verdict}
use Rattle.rec_text.proofs.lemmas.FaultLemmas.{memory_or_weaker, ok_is_no_err, same_fault, same_value}
use Rattle.rec_tools.proofs.lemmas.printing.PutsLemmas.{refused_before, PutsPrintout-err}

pub no_store_report : (file : List ℕ) → AreViolationsOf file (Err StoreFailed) → ⊥
no_store_report file (inl h) = h
no_store_report file (inr (pieces, read, h)) = h

-- a file that can't be read, or whose record sets can't be told, has no report
no_report : (file : List ℕ) (fault : Fault) → IsDescribedText file (Err fault) → AreViolationsOf file (Err fault)
no_report file fault (inl (other, unread, e)) = inl (subst (λ f. IsReading file (Err f)) (sym (same_fault fault other e)) unread)
no_report file fault (inr (pieces, read, inl (other, refused, e))) = inr (pieces, read, subst (λ f. IsSchema pieces (Err f)) (sym (same_fault fault other e)) refused)
no_report file fault (inr (pieces, read, inr (schema, is, e))) = ok_is_no_err {A = DescribedText} (record { pieces = pieces; schema = schema }) fault _ e

pub check-no_text : {S : Type 0} {contents : S → Option (List ℕ)} {failures : S → ℕ} (file : List ℕ) (out : S) (fault : Fault) → IsMemoryOr fault (IsDescribedText file (Err fault))
    → PrintsAndCounts contents failures out out (PutsPrintout (IsReportText (AreViolationsOf file))) (Err fault)
check-no_text file out fault h =
    refused_before (IsReportText (AreViolationsOf file)) out fault (no_store_report file) (memory_or_weaker fault _ _ (no_report file fault) h)

module _ (file : List ℕ) (text : DescribedText) (is : IsDescribedText file (Ok text)) (found : List Violation) (are : AreViolations text.pieces text.schema found) where
  -- a check of the file finds them
  checked : AreViolationsOf file (Ok found)
  checked = of_text is where
    of_text : IsDescribedText file (Ok text) → AreViolationsOf file (Ok found)
    of_text (inl (fault, unread, e)) = ok_is_no_err text fault _ (sym e)
    of_text (inr (pieces, read, inl (fault, refused, e))) = ok_is_no_err text fault _ (sym e)
    of_text (inr (pieces, read, inr (schema, of_pieces, e))) =
        (pieces, schema, read, of_pieces, subst (λ (t : DescribedText). AreViolations t.pieces t.schema found) (same_value text _ e) are)

  -- the report of what was found is the printout
  reported : (slice : List Violation) → slice ≡ found → (printed : List ℕ) → IsReport slice (Ok printed)
      → IsReportText (AreViolationsOf file) (Ok (record { text = printed; reply = verdict found }))
  reported slice e printed put = (found, checked, same_value printed _ (subst (λ vs. IsReport vs (Ok printed)) e put), refl)

  pub check-printed : (X : Type 0) (done : X) (slice : List Violation) (reply : Reply) (old new : Option (List ℕ)) → slice ≡ found → reply ≡ verdict found
      → Puts {X = X} (IsReport slice) old new (Ok done)
      → PutsPrintout (IsReportText (AreViolationsOf file)) old new (Ok reply)
  check-printed X done slice reply old new e is_verdict put =
      (put.0, (found, checked, same_value put.0 _ (subst (λ vs. IsReport vs (Ok put.0)) e put.1), is_verdict), put.2)

  pub check-cut_short : (X : Type 0) (slice : List Violation) (old new : Option (List ℕ)) (fault : Fault) → slice ≡ found → Puts {X = X} (IsReport slice) old new (Err fault)
      → PutsPrintout (IsReportText (AreViolationsOf file)) old new (Err fault)
  check-cut_short X slice old new fault e put =
      PutsPrintout-err X (IsReport slice) (IsReportText (AreViolationsOf file)) old new fault (λ printed is_text. (verdict found, reported slice e printed is_text))
      (λ f h. ok_is_no_err (report slice) f _ h) put
