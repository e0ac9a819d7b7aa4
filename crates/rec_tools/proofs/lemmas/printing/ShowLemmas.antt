-- What `show` and `print_wanted` put out, step by step, and what `wanted_of` refuses.
use Rattle.std.proofs.Common.{◌≡◌, inl, inr, ℕ, Bool, List, Option, Some, None, Result, Ok, Err, refl, subst, sym, [], ◌∷◌, true, false}
use Rattle.std.specs.Prelude.{find, if◌then◌else◌}
use Rattle.rec_text.specs.declared.fault.Fault.{Fault}
use Rattle.rec_text.specs.declared.fault.Fault.TheVariants.{BadName, StoreFailed}
use Rattle.rec_text.specs.Faults.{IsMemoryOr}
use Rattle.rec_check.specs.declared.set.Set_.{Set_}
use Rattle.rec_select.specs.Taken.{PrintsAndCounts}
use Rattle.rec_check.specs.DescribedTexts.{DescribedText, IsDescribedText}
use Rattle.rec_check.specs.Sets.{is_of_type}
use Rattle.rec_select.specs.declared.field_value.FieldValue.{FieldValue}
use Rattle.rec_select.specs.declared.records.Shape.{Shape}
use Rattle.rec_select.specs.Printing.{IsPrinted}
use Rattle.rec_select.specs.Selection.{Filter, IsSelection, set_for, only_set, has_members}
use Rattle.rec_tools.specs.declared.request.Ask.{Ask}
use Rattle.rec_tools.specs.declared.request.Ask.TheVariants.{All, Expr, Index, Quick, Where}
use Rattle.rec_tools.specs.declared.request.Form.{Form}
use Rattle.rec_tools.specs.declared.request.Form.TheVariants.{Blocks, Print, Values, Row, Count}
use Rattle.rec_tools.specs.declared.request.Pick.{Pick}
use Rattle.rec_tools.specs.Asking.{IsFilter, IsShape}
use Rattle.rec_tools.specs.Printouts.{IsShowOf, IsShow, IsShownText, PutsPrintout}
use Rattle.rec_tools.specs.Steps.{Then}
use Rattle.rec_text.proofs.lemmas.FaultLemmas.{memory_or_weaker, same_fault}
use Rattle.rec_tools.proofs.lemmas.printing.PutsLemmas.{refused_before, no_store_then, no_store_text, no_store_type}

-- ---- what is asked for

no_store_value : (test : Bool) (named : FieldValue) → (if test then Ok named else Err BadName) ≡ Err StoreFailed → ⊥
no_store_value true named e = cc
no_store_value false named e = cc

pub no_store_filter : (ask : Ask) → IsFilter ask (Err StoreFailed) → ⊥
no_store_filter All e = cc
no_store_filter (Expr text) h = h
no_store_filter (Index list) h = h
no_store_filter (Quick text) e = cc
no_store_filter (Where text) e = no_store_value _ _ e

no_store_shape : (form : Form) → IsShape form (Err StoreFailed) → ⊥
no_store_shape Blocks e = cc
no_store_shape (Print list) h = h
no_store_shape (Values list) h = h
no_store_shape (Row list) h = h
no_store_shape Count e = cc

pub wanted-no_shape : (pick : Pick) (form : Form) (wanted : Filter) (fault : Fault) → IsFilter pick.by (Ok wanted) → IsMemoryOr fault (IsShape form (Err fault))
    → IsMemoryOr fault (Then {B = Shape} (IsFilter pick.by) (λ _. IsShape form) (Err fault))
wanted-no_shape pick form wanted fault found h = memory_or_weaker fault _ _ (λ none. inr (wanted, found, none)) h

-- ---- the set

no_store_only : (untyped : Set_) (typed : List Set_) → only_set untyped typed ≡ Err StoreFailed → ⊥
no_store_only untyped [] e = cc
no_store_only untyped (s ∷ []) e = cc
no_store_only untyped (s ∷ t ∷ sets) e = cc

no_store_untyped : (taken : Bool) (untyped : Set_) (typed : List Set_) → (if taken then Ok untyped else only_set untyped typed) ≡ Err StoreFailed → ⊥
no_store_untyped true untyped typed e = cc
no_store_untyped false untyped typed e = no_store_only untyped typed e

no_store_set : (record_type : Option (List ℕ)) (sets : List Set_) → set_for record_type sets ≡ Err StoreFailed → ⊥
no_store_set None [] e = cc
no_store_set None (untyped ∷ typed) e = no_store_untyped (has_members untyped) untyped typed e
no_store_set (Some record_type) sets e = no_store_type (find (is_of_type record_type) sets) e

-- ---- records

pub no_store_selection : (text : DescribedText) (record_type : Option (List ℕ)) (wanted : Filter) → IsSelection text.pieces text.schema.sets record_type wanted (Err StoreFailed) → ⊥
no_store_selection text record_type wanted e = no_store_set record_type text.schema.sets e

-- the records of a text that are wanted, in a shape
module _ (text : DescribedText) (record_type : Option (List ℕ)) (wanted : Filter) (shape : Shape) (collapse : Bool) where
  no_store_show_of : IsShowOf text record_type wanted shape collapse (Err StoreFailed) → ⊥
  no_store_show_of =
      no_store_then (IsSelection text.pieces text.schema.sets record_type wanted) (λ selected. IsPrinted text.pieces selected shape collapse)
      (no_store_selection text record_type wanted) (λ selected h. h)

  pub show_of-refused : {S : Type 0} {contents : S → Option (List ℕ)} {failures : S → ℕ} (out : S) (fault : Fault)
      → IsMemoryOr fault (IsSelection text.pieces text.schema.sets record_type wanted (Err fault))
      → PrintsAndCounts contents failures out out (PutsPrintout (IsShownText (IsShowOf text record_type wanted shape collapse))) (Err fault)
  show_of-refused out fault h =
      refused_before (IsShownText (IsShowOf text record_type wanted shape collapse)) out fault no_store_show_of
      (memory_or_weaker fault _ _ (λ none. inl (fault, none, refl)) h)

  pub show_of-printed : (selected slice : List ℕ) → slice ≡ selected → IsSelection text.pieces text.schema.sets record_type wanted (Ok selected)
      → (r : Result (List ℕ) Fault) → IsPrinted text.pieces slice shape collapse r → IsShowOf text record_type wanted shape collapse r
  show_of-printed selected slice e found r printed =
      inr (selected, found, subst (λ s. IsPrinted text.pieces s shape collapse r) e printed)

module _ (file : List ℕ) (pick : Pick) (form : Form) (collapse : Bool) where
  pub no_store_show : IsShow file pick form collapse (Err StoreFailed) → ⊥
  no_store_show = no_store_then (IsDescribedText file) (λ text. Then (IsFilter pick.by) (λ wanted. Then (IsShape form) (λ shape. IsShowOf text pick.kind wanted shape collapse)))
      (no_store_text file) (λ text. no_store_then (IsFilter pick.by) (λ wanted. Then (IsShape form) (λ shape. IsShowOf text pick.kind wanted shape collapse))
      (no_store_filter pick.by) (λ wanted. no_store_then (IsShape form) (λ shape. IsShowOf text pick.kind wanted shape collapse)
      (no_store_shape form) (λ shape. no_store_show_of text pick.kind wanted shape collapse)))

  pub show-no_text : {S : Type 0} {contents : S → Option (List ℕ)} {failures : S → ℕ} (out : S) (fault : Fault) → IsMemoryOr fault (IsDescribedText file (Err fault))
      → PrintsAndCounts contents failures out out (PutsPrintout (IsShownText (IsShow file pick form collapse))) (Err fault)
  show-no_text out fault h =
      refused_before (IsShownText (IsShow file pick form collapse)) out fault no_store_show
      (memory_or_weaker fault _ _ (λ refused. inl (fault, refused, refl)) h)

  module _ (text : DescribedText) (is : IsDescribedText file (Ok text)) where
    asked : (fault : Fault) → Then {B = Shape} (IsFilter pick.by) (λ _. IsShape form) (Err fault) → IsShow file pick form collapse (Err fault)
    asked fault (inl (other, refused, e)) = inr (text, is, inl (fault, subst (λ f. IsFilter pick.by (Err f)) (sym (same_fault _ _ e)) refused, refl))
    asked fault (inr (wanted, found, refused)) = inr (text, is, inr (wanted, found, inl (fault, refused, refl)))

    pub show-not_asked : {S : Type 0} {contents : S → Option (List ℕ)} {failures : S → ℕ} (out : S) (fault : Fault)
        → IsMemoryOr fault (Then {B = Shape} (IsFilter pick.by) (λ _. IsShape form) (Err fault))
        → PrintsAndCounts contents failures out out (PutsPrintout (IsShownText (IsShow file pick form collapse))) (Err fault)
    show-not_asked out fault h = refused_before (IsShownText (IsShow file pick form collapse)) out fault no_store_show (memory_or_weaker fault _ _ (asked fault) h)

    pub show-printed : (record_type : Option (List ℕ)) (wanted : Filter) (shape : Shape) → record_type ≡ pick.kind → IsFilter pick.by (Ok wanted) → IsShape form (Ok shape)
        → (r : Result (List ℕ) Fault) → IsShowOf text record_type wanted shape collapse r → IsShow file pick form collapse r
    show-printed record_type wanted shape e found shaped r printed =
        inr (text, is, inr (wanted, found, inr (shape, shaped, subst (λ k. IsShowOf text k wanted shape collapse r) e printed)))
