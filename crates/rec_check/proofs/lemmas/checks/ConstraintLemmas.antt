-- Constraints, tried one after another on a record.
use Rattle.std.proofs.Common.{◌≡◌, ◌∙◌, inl, inr, ℕ, suc, ◌+◌, ◌<◌, ◌≤◌, Bool, true, false, List, [], ◌∷◌, ◌++◌, length, map, take, get_or, refl, ap, sym, subst, arith, append_assoc}
use Rattle.std.specs.Prelude.{◌↔◌, IsTrue, decimal}
use Rattle.std.proofs.lemmas.Bool.{false≢true}
use Rattle.std.proofs.lemmas.List.{append-nil, get_or-map, length-map, length-take-le, take_all, take_more}
use Rattle.rec_text.specs.declared.violations.Rule.TheVariants.{Constraint}
use Rattle.rec_text.specs.declared.violations.Violation.{Violation}
use Rattle.rec_text.specs.Elements.{Piece}
use Rattle.rec_sex.specs.Grammar.{Term}
use Rattle.rec_sex.specs.Meaning.{Selects}
use Rattle.rec_check.specs.Checks.{AddsUnselected}
use Rattle.rec_check.specs.Violations.{AreUnselected, violation}

module _ (line : ℕ) (fields : List Piece) where
  selected_push : (number : ℕ) (terms : List Term) (term : Term) (own : List Violation) → AreUnselected line number terms fields own → Selects term fields
      → AreUnselected line number (terms ++ term ∷ []) fields own
  selected_push number [] term own are selects = inl (selects, are)
  selected_push number (first ∷ terms) term own (inl (first_selects, are)) selects = inl (first_selects, selected_push (number + 1) terms term own are selects)
  selected_push number (first ∷ terms) term own (inr (fails, (rest, is, are))) selects = inr (fails, (rest, is, selected_push (number + 1) terms term rest are selects))

  unselected_push : (number : ℕ) (terms : List Term) (term : Term) (own : List Violation) → AreUnselected line number terms fields own → (Selects term fields → ⊥)
      → AreUnselected line number (terms ++ term ∷ []) fields (own ++ violation line Constraint (decimal (number + length terms)) ∷ [])
  unselected_push number [] term own are fails =
      inr (fails, ([], ap (λ l. l ++ violation line Constraint (decimal (number + 0)) ∷ []) are ∙ ap (λ n. violation line Constraint (decimal n) ∷ []) (omega arith), refl))
  unselected_push number (first ∷ terms) term own (inl (selects, are)) fails =
      inl (
        selects,
        let P : ℕ → Type 0 = λ n. AreUnselected line (number + 1) (terms ++ term ∷ []) fields (own ++ violation line Constraint (decimal n) ∷ [])
            in subst P (omega arith) (unselected_push (number + 1) terms term own are fails),
      )
  unselected_push number (first ∷ terms) term own (inr (other, (rest, is, are))) fails =
      inr (
        other,
        (
          rest ++ violation line Constraint (decimal (number + suc (length terms))) ∷ [],
          ap (λ l. l ++ violation line Constraint (decimal (number + suc (length terms))) ∷ []) is,
          (let P : ℕ → Type 0 = λ n. AreUnselected line (number + 1) (terms ++ term ∷ []) fields (rest ++ violation line Constraint (decimal n) ∷ [])
              in subst P (omega arith) (unselected_push (number + 1) terms term rest are fails)),
        ),
      )

  -- as a loop takes the constraints
  module _ (old found : List Violation) where
    pub AddsUnselected-none : (terms : List Term) → found ≡ old → AddsUnselected line (take 0 terms) fields old found
    AddsUnselected-none terms same = record { own = []; are = refl; joined = same ∙ sym (append-nil old) }

    module _ (terms : List Term) (i : ℕ) (term : Term) (within : i < length terms) (at : term ≡ get_or terms i term) (so_far : AddsUnselected line (take i terms) fields old found) (answer : Bool)
        (answers : IsTrue answer ↔ Selects term fields) where
      more_is : take (i + 1) terms ≡ take i terms ++ term ∷ []
      more_is = take_more terms i term within ∙ ap (λ t. take i terms ++ t ∷ []) (sym at)

      pub AddsUnselected-selected : answer ≡ true → AddsUnselected line (take (i + 1) terms) fields old found
      AddsUnselected-selected holds = record {
        own = so_far.own;
        are = let P : List Term → Type 0 = λ l. AreUnselected line 1 l fields so_far.own in subst P (sym more_is) (selected_push 1 (take i terms) term so_far.own so_far.are (answers.0 holds));
        joined = so_far.joined;
      }

      pub AddsUnselected-added : (number : ℕ) (more : List Violation) → answer ≡ false → number ≡ i + 1 → more ≡ found ++ violation line Constraint (decimal number) ∷ []
          → AddsUnselected line (take (i + 1) terms) fields old more
      AddsUnselected-added number more fails is added =
          let size : 1 + length (take i terms) ≡ number = omega (arith, length-take-le i terms (omega arith)) in
          let one : List Violation = violation line Constraint (decimal number) ∷ [] in
          record {
            own = so_far.own ++ one;
            are =
                let P : List Term → Type 0 = λ l. AreUnselected line 1 l fields (so_far.own ++ one) in
                let Q : ℕ → Type 0 = λ n. AreUnselected line 1 (take i terms ++ term ∷ []) fields (so_far.own ++ violation line Constraint (decimal n) ∷ []) in
                subst P (sym more_is) (subst Q size (unselected_push 1 (take i terms) term so_far.own so_far.are (λ selects. false≢true (sym fails ∙ answers.1 selects))));
            joined = added ∙ ap (λ l. l ++ one) so_far.joined ∙ append_assoc old so_far.own one;
          }

    pub AddsUnselected-all : (terms : List Term) (i : ℕ) → length terms ≤ i → AddsUnselected line (take i terms) fields old found → AddsUnselected line terms fields old found
    AddsUnselected-all terms i past so_far = let P : List Term → Type 0 = λ l. AddsUnselected line l fields old found in subst P (take_all i terms past) so_far

-- what is read of a list, of which another one is made item by item
module _ {X Y : Type 0} (f : X → Y) (items : List X) (made : List Y) (i : ℕ) (d : X) (same : map f items ≡ made) (within : i < length items) where
  pub made_within : i < length made
  made_within = omega (arith, ap length same, length-map items f)

  pub made_at : f (get_or items i d) ≡ get_or made i (f (get_or items i d))
  made_at = sym (get_or-map f items i d (f (get_or items i d)) within) ∙ ap (λ l. get_or l i (f (get_or items i d))) same
