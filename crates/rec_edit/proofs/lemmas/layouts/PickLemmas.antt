-- Items that pick none of a record's elements.
use Rattle.std.proofs.Common.{◌≡◌, ◌∙◌, ℕ, ◌+◌, ◌-◌, min, true, false, List, [], ◌∷◌, ◌++◌, length, eqb, leb, ltb, ◌||◌, refl, ap, sym, arith, take, suc, cond, drop, None, Some, subst}
use Rattle.std.proofs.Common.{append-nil}
use Rattle.std.proofs.lemmas.Bool.{ne_eqb, cond-true, cond-false, cond_both}
use Rattle.std.proofs.lemmas.Bool.Decides.{nat_tests}
use Rattle.std.proofs.lemmas.List.{length-take, length-drop}
use Rattle.std.proofs.lemmas.List.Sums.{sum_by-cons}
use Rattle.std.specs.List.{count_by}
use Rattle.rec_text.specs.Elements.{Piece, has_name}
use Rattle.rec_sex.specs.declared.lists.index_list.Span.{Span}
use Rattle.rec_sex.specs.declared.lists.field_list.Item.{Item}
use Rattle.rec_sex.specs.Lists.{places_from}
use Rattle.rec_edit.specs.Rules.{picks_none}

-- ---- items that pick none

length-places_from : (i : ℕ) (name : List ℕ) (own : List Piece) → length (places_from i name own) ≡ count_by (has_name name) own
length-places_from i name [] = refl
length-places_from i name (piece ∷ own) =
    let rest : length (places_from (i + 1) name own) ≡ count_by (has_name name) own = length-places_from (i + 1) name own in
    let edit : count_by (has_name name) (piece ∷ own) ≡ cond (has_name name piece) 1 0 + count_by (has_name name) own = sum_by-cons (λ x. cond (has_name name x) 1 0) piece own in
    cond_both (has_name name piece) (i ∷ places_from (i + 1) name own) (places_from (i + 1) name own) (λ places. length places ≡ count_by (has_name name) (piece ∷ own))
    (λ same. omega (arith, cond-true {A = ℕ} (has_name name piece) 1 0 same))
    (λ other. omega (arith, cond-false {A = ℕ} (has_name name piece) 1 0 other))

none_among : (places : List ℕ) → eqb (length places) 0 ≡ elim places [ [] ↦ true | place ∷ more ↦ false ]
none_among [] = refl
none_among (place ∷ places) = ne_eqb (suc (length places)) 0 (λ e. omega arith)

module _ (own : List Piece) (name : List ℕ) (count : ℕ) (counted : count ≡ count_by (has_name name) own) where
  pub picks_none-all : eqb count 0 ≡ picks_none own (record { name = name; occurrences = None })
  picks_none-all =
      ap (λ n. eqb n 0) (counted ∙ sym (length-places_from 0 name own) ∙ ap length (sym (append-nil (places_from 0 name own)))) ∙ none_among (places_from 0 name own ++ [])

  pub picks_none-some : (span : Span) → (leb count span.first || ltb span.last span.first) ≡ picks_none own (record { name = name; occurrences = Some span })
  picks_none-some span =
      let places : List ℕ = places_from 0 name own in
      let size = length-places_from 0 name own in
      let left : length (drop span.first (take (span.last + 1) places)) ≡ min (span.last + 1) count - span.first =
      length-drop span.first (take (span.last + 1) places) ∙ ap (λ n. n - span.first) (length-take (span.last + 1) places ∙ ap (min (span.last + 1)) (size ∙ sym counted)) in
      window span.first span.last count ∙ ap (λ n. eqb n 0) (sym left ∙ ap length (sym (append-nil (drop span.first (take (span.last + 1) places)))))
      ∙ none_among (drop span.first (take (span.last + 1) places) ++ [])
    where
      window : (first last n : ℕ) → (leb n first || ltb last first) ≡ eqb (min (last + 1) n - first) 0
      window first last n = grind (arith, nat_tests)

module _ (own : List Piece) (item : Item) (name : List ℕ) (count : ℕ) (named : name ≡ item.name) (counted : count ≡ count_by (has_name name) own) where
  with_name : count ≡ count_by (has_name item.name) own
  with_name = counted ∙ ap (λ n. count_by (has_name n) own) named

  pub item_picks-all : item.occurrences ≡ None → eqb count 0 ≡ picks_none own item
  item_picks-all is = subst (λ o. eqb count 0 ≡ picks_none own (record { name = item.name; occurrences = o })) (sym is) (picks_none-all own item.name count with_name)

  pub item_picks-some : (span : Span) → item.occurrences ≡ Some span → (leb count span.first || ltb span.last span.first) ≡ picks_none own item
  item_picks-some span is =
      subst (λ o. (leb count span.first || ltb span.last span.first) ≡ picks_none own (record { name = item.name; occurrences = o })) (sym is) (picks_none-some own item.name count with_name span)
