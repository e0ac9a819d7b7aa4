-- Names and values that were tested can be written, or are refused, as the definitions say.
use Rattle.std.proofs.Common.{◌≡◌, ◌∙◌, ◌++◌, ℕ, Bool, true, false, cond, List, Result, Ok, Err, refl, ap, sym}
use Rattle.std.specs.Prelude.{◌&&◌}
use Rattle.std.specs.List.{list_all}
use Rattle.std.proofs.lemmas.List.Folds.{list_all-append}
use Rattle.rec_text.specs.declared.fault.Fault.{Fault}
use Rattle.rec_text.specs.declared.fault.Fault.TheVariants.{BadName, BadValue}
use Rattle.rec_text.specs.Canonical.{is_plain_name, is_foldable}
use Rattle.rec_edit.specs.Wording.{if_writable}

-- ---- whether names are plain, found in two steps

module _ (some more : List (List ℕ)) (both first second : Bool) (first_is : first ≡ list_all is_plain_name some) where
  pub plain_both : first ≡ true → both ≡ second → second ≡ list_all is_plain_name more → both ≡ list_all is_plain_name (some ++ more)
  plain_both plain is second_is =
      is ∙ second_is ∙ ap (λ test. test && list_all is_plain_name more) (sym plain ∙ first_is) ∙ sym (list_all-append is_plain_name some more)

  pub plain_neither : first ≡ false → both ≡ false → both ≡ list_all is_plain_name (some ++ more)
  plain_neither bad is = is ∙ ap (λ test. test && list_all is_plain_name more) (sym bad ∙ first_is) ∙ sym (list_all-append is_plain_name some more)

-- ---- what is answered

-- what is written by the two tests
abbrev tested : {X : Type 0} → Bool → Bool → X → Result X Fault
tested plain foldable x = cond plain (cond foldable (Ok x) (Err BadValue)) (Err BadName)

-- the answer without a value
abbrev Answer : Type 0
Answer = Result (Unit {0}) Fault

tested-ok : {X : Type 0} (plain foldable : Bool) (x : X) → ◌≡◌ {A = Answer} (tested plain foldable tt) (Ok tt) → Ok x ≡ tested plain foldable x
tested-ok true true x e = refl
tested-ok true false x e = absurd (cc)
tested-ok false foldable x e = absurd (cc)

tested-err : {X : Type 0} (plain foldable : Bool) (x : X) (fault : Fault) → ◌≡◌ {A = Answer} (tested plain foldable tt) (Err fault) → Err fault ≡ tested plain foldable x
tested-err true true x fault e = absurd (cc)
tested-err true false x fault e = let same : fault ≡ BadValue = cc in ap Err same
tested-err false foldable x fault e = let same : fault ≡ BadName = cc in ap Err same

module _ (names values : List (List ℕ)) {X : Type 0} (x : X) (answer : Answer) (is : answer ≡ if_writable names values tt) where
  pub if_writable-ok : answer ≡ Ok tt → Ok x ≡ if_writable names values x
  if_writable-ok e = tested-ok (list_all is_plain_name names) (list_all (is_foldable 32) values) x (sym is ∙ e)

  pub if_writable-err : (fault : Fault) → answer ≡ Err fault → Err fault ≡ if_writable names values x
  if_writable-err fault e = tested-err (list_all is_plain_name names) (list_all (is_foldable 32) values) x fault (sym is ∙ e)
