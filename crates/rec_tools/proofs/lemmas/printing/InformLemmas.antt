-- What `inform` puts out, step by step.
use Rattle.std.proofs.Common.{◌≡◌, inl, inr, ℕ, List, Option, Some, None, Result, Ok, Err, refl, subst, [], ◌∷◌}
use Rattle.std.specs.Prelude.{find}
use Rattle.rec_text.specs.declared.fault.Fault.{Fault}
use Rattle.rec_text.specs.declared.fault.Fault.TheVariants.{StoreFailed}
use Rattle.rec_text.specs.Faults.{IsMemoryOr}
use Rattle.rec_check.specs.declared.set.Set_.{Set_}
use Rattle.rec_select.specs.Taken.{PrintsAndCounts}
use Rattle.rec_check.specs.DescribedTexts.{DescribedText, IsDescribedText}
use Rattle.rec_check.specs.Sets.{is_of_type}
use Rattle.rec_select.specs.declared.info.InfoForm.{InfoForm}
use Rattle.rec_select.specs.Info.{IsInfo}
use Rattle.rec_select.specs.Selection.{set_of_type}
use Rattle.rec_tools.specs.Printouts.{IsInfoOf, IsShownText, PutsPrintout}
use Rattle.rec_text.proofs.lemmas.FaultLemmas.{memory_or_weaker}
use Rattle.rec_tools.proofs.lemmas.printing.PutsLemmas.{refused_before, no_store_then, no_store_text, no_store_type}

no_store_kept : (s : Result Set_ Fault) → ◌≡◌ {A = Result (List Set_) Fault} (elim s [ Ok s ↦ Ok (s ∷ []) | Err fault ↦ Err fault ]) (Err StoreFailed) → s ≡ Err StoreFailed
no_store_kept (Ok s) e = cc
no_store_kept (Err fault) e = cc

pub no_store_info : (text : DescribedText) (record_type : Option (List ℕ)) (form : InfoForm) → IsInfo text.pieces text.schema.sets record_type form (Err StoreFailed) → ⊥
no_store_info text None form e = cc
no_store_info text (Some record_type) form e = no_store_type (find (is_of_type record_type) text.schema.sets) (no_store_kept (set_of_type record_type text.schema.sets) e)

module _ (file : List ℕ) (record_type : Option (List ℕ)) (form : InfoForm) where
  pub info-no_text : {S : Type 0} {contents : S → Option (List ℕ)} {failures : S → ℕ} (out : S) (fault : Fault) → IsMemoryOr fault (IsDescribedText file (Err fault))
      → PrintsAndCounts contents failures out out (PutsPrintout (IsShownText (IsInfoOf file record_type form))) (Err fault)
  info-no_text out fault h =
      refused_before (IsShownText (IsInfoOf file record_type form)) out fault
      (no_store_then (IsDescribedText file) (λ text. IsInfo text.pieces text.schema.sets record_type form) (no_store_text file) (λ text. no_store_info text record_type form))
      (memory_or_weaker fault _ _ (λ refused. inl (fault, refused, refl)) h)

  pub info-printed : (text : DescribedText) → IsDescribedText file (Ok text) → (asked : Option (List ℕ)) → asked ≡ record_type
      → (r : Result (List ℕ) Fault) → IsInfo text.pieces text.schema.sets asked form r → IsInfoOf file record_type form r
  info-printed text is asked e r printed = inr (text, is, subst (λ k. IsInfo text.pieces text.schema.sets k form r) e printed)
