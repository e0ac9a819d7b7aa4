-- Which of some names a record has, field by field, and which of them break a rule.
use Rattle.std.proofs.Common.{◌≡◌, ◌∙◌, inl, inr, ℕ, zero, suc, ◌+◌, ◌<◌, Bool, true, false, ◌||◌, ◌&&◌, not, cond, List, [], ◌∷◌, ◌++◌, filter, length, position, take, get_or, Some, None, refl, ap}
use Rattle.std.proofs.Common.{ap₂, sym, arith}
use Rattle.std.proofs.lemmas.Bool.{cases_Bool, le-leb, ne_eqb, or_left}
use Rattle.std.proofs.lemmas.List.{map_more}
use Rattle.std.proofs.lemmas.List.Elements.{filter_agree}
use Rattle.std.proofs.lemmas.List.Quantifiers.{position-Some}
use Rattle.std.proofs.Math.Bool.{and-false}
use Rattle.std.specs.BTreeMap.{is_at}
use Rattle.std.specs.BTreeSet.{insert_key}
use Rattle.std.specs.List.{enumerate_from, filter_map, list_any, slice_get}
use Rattle.std.specs.Ordering.{nat_cmp}
use Rattle.std.specs.Prelude.{◌==◌, nat_le}
use Rattle.std.specs.Str.{bytes_eq}
use Rattle.rec_text.specs.declared.element.Element.{Element}
use Rattle.rec_text.specs.Elements.{Piece, name_of}
use Rattle.rec_text.specs.Places.{piece_of, pieces_of}
use Rattle.rec_text.proofs.lemmas.ListLemmas.{same_bytes}
use Rattle.rec_check.specs.declared.checks.occurrence_rule.OccurrenceRule.{OccurrenceRule}
use Rattle.rec_check.specs.declared.checks.occurrence_rule.OccurrenceRule.TheVariants.{Present}
use Rattle.rec_check.specs.declared.checks.names_seen.NamesSeen.{NamesSeen}
use Rattle.rec_check.specs.Checks.{breaking, breaks_occurrence_rule}
use Rattle.rec_check.specs.proving.NamesSeen.{places_of, occurs, AreNamesSeen}
use Rattle.rec_check.specs.Violations.{occurrences}
use Rattle.rec_check.specs.Words.{distinct}
use Rattle.rec_check.proofs.lemmas.checks.NamePlaceLemmas.{apart, beside, holds_place, names_at, names_besides, places_agree, places_next}

-- ---- one field more

suc_plus : (a b : ℕ) → suc (a + b) ≡ suc a + b
suc_plus a b = omega arith

occurrences-push : (fields : List Piece) (piece : Piece) (name : List ℕ) → occurrences (fields ++ piece ∷ []) name ≡ occurrences fields name + cond (bytes_eq (name_of piece) name) 1 0
occurrences-push [] piece name = elim (cases_Bool (bytes_eq (name_of piece) name)) [ inl same ↦ rw same refl | inr other ↦ rw other refl ]
occurrences-push (first ∷ fields) piece name = elim (cases_Bool (bytes_eq (name_of first) name)) [
  | inl same ↦ rw same (ap suc (occurrences-push fields piece name) ∙ suc_plus (occurrences fields name) (cond (bytes_eq (name_of piece) name) 1 0))
  | inr other ↦ rw other (occurrences-push fields piece name)
]

one_at_least : (n : ℕ) (more : Bool) → nat_le 1 (n + cond more 1 0) ≡ (nat_le 1 n || more)
one_at_least zero true = refl
one_at_least zero false = refl
one_at_least (suc n) more = le-leb 1 (suc n + cond more 1 0) (omega arith) ∙ sym (or_left (nat_le 1 (suc n)) more (le-leb 1 (suc n) (omega arith)))

two_at_least : (n : ℕ) (more : Bool) → nat_le 2 (n + cond more 1 0) ≡ (nat_le 2 n || (nat_le 1 n && more))
two_at_least zero true = refl
two_at_least zero false = refl
two_at_least (suc zero) true = refl
two_at_least (suc zero) false = refl
two_at_least (suc (suc n)) more =
    le-leb 2 (suc (suc n) + cond more 1 0) (omega arith) ∙ sym (or_left (nat_le 2 (suc (suc n))) (nat_le 1 (suc (suc n)) && more) (le-leb 2 (suc (suc n)) (omega arith)))

module _ (fields : List Piece) (piece : Piece) (names : List (List ℕ)) where
  abbrev own : List ℕ
  own = name_of piece

  once_more : (name : List ℕ) → occurs 1 (fields ++ piece ∷ []) name ≡ (occurs 1 fields name || bytes_eq own name)
  once_more name = ap (nat_le 1) (occurrences-push fields piece name) ∙ one_at_least (occurrences fields name) (bytes_eq own name)

  same_own : (name : List ℕ) → (occurs 1 fields name && bytes_eq own name) ≡ (occurs 1 fields own && bytes_eq own name)
  same_own name = elim (cases_Bool (bytes_eq own name)) [
    | inl same ↦ ap (λ n. occurs 1 fields n && bytes_eq own name) (sym (same_bytes own name same))
    | inr other ↦ rw other (and-false (occurs 1 fields name) ∙ sym (and-false (occurs 1 fields own)))
  ]

  again_more : (name : List ℕ) → occurs 2 (fields ++ piece ∷ []) name ≡ (occurs 2 fields name || (occurs 1 fields own && bytes_eq own name))
  again_more name = ap (nat_le 2) (occurrences-push fields piece name) ∙ two_at_least (occurrences fields name) (bytes_eq own name) ∙ ap (λ b. occurs 2 fields name || b) (same_own name)

  same_count : (least : ℕ) (name : List ℕ) → bytes_eq own name ≡ false → occurs least fields name ≡ occurs least (fields ++ piece ∷ []) name
  same_count least name other =
      let none : occurrences fields name + 0 ≡ occurrences fields name = omega arith in
      ap (nat_le least) (sym (occurrences-push fields piece name ∙ ap (λ b. occurrences fields name + cond b 1 0) other ∙ none))

  pub places_passed : (least : ℕ) → position (bytes_eq own) names ≡ None → places_of (occurs least fields) names ≡ places_of (occurs least (fields ++ piece ∷ [])) names
  places_passed least none = places_agree 0 _ _ names (λ name among. same_count least name (apart own names none name among))

  -- one of the name at a place
  module _ (i : ℕ) (once : distinct names ≡ names) (at : position (bytes_eq own) names ≡ Some i) where
    pub once_inserted : insert_key nat_cmp (places_of (occurs 1 fields) names) i ≡ places_of (occurs 1 (fields ++ piece ∷ [])) names
    once_inserted = places_next (occurs 1 fields) (occurs 1 (fields ++ piece ∷ [])) true own names i once_more once at

    pub again_inserted : cond (list_any (is_at (nat_cmp i)) (places_of (occurs 1 fields) names)) (insert_key nat_cmp (places_of (occurs 2 fields) names) i) (places_of (occurs 2 fields) names)
        ≡ places_of (occurs 2 (fields ++ piece ∷ [])) names
    again_inserted =
        let there = position-Some (bytes_eq own) names i [] at in
        ap (λ b. cond b (insert_key nat_cmp (places_of (occurs 2 fields) names) i) (places_of (occurs 2 fields) names))
        (holds_place (occurs 1 fields) names i there.0 ∙ ap (occurs 1 fields) (sym (same_bytes own (get_or names i []) there.1)))
        ∙ places_next (occurs 2 fields) (occurs 2 (fields ++ piece ∷ [])) (occurs 1 fields own) own names i again_more once at

-- as a loop takes the elements
module _ (elements : List Element) (i : ℕ) (d : Element) (within : i < length elements) (names : List (List ℕ)) where
  abbrev piece_at : Piece
  piece_at = piece_of (get_or elements i d)

  up_to_next : (least : ℕ) → places_of (occurs least (pieces_of (take i elements) ++ piece_at ∷ [])) names ≡ places_of (occurs least (pieces_of (take (i + 1) elements))) names
  up_to_next least = ap (λ l. places_of (occurs least l) names) (sym (map_more piece_of elements i d within))

  pub seen_other : (seen : NamesSeen) → position (bytes_eq (name_of piece_at)) names ≡ None → AreNamesSeen names (pieces_of (take i elements)) seen
      → AreNamesSeen names (pieces_of (take (i + 1) elements)) seen
  seen_other seen none are = record {
    once = are.once ∙ places_passed (pieces_of (take i elements)) piece_at names 1 none ∙ up_to_next 1;
    again = are.again ∙ places_passed (pieces_of (take i elements)) piece_at names 2 none ∙ up_to_next 2;
  }

  pub seen_more : (old new : NamesSeen) (place : ℕ) → distinct names ≡ names → position (bytes_eq (name_of piece_at)) names ≡ Some place → AreNamesSeen names (pieces_of (take i elements)) old
      → new.once.keys ≡ insert_key nat_cmp old.once.keys place → new.again.keys ≡ cond (list_any (is_at (nat_cmp place)) old.once.keys) (insert_key nat_cmp old.again.keys place) old.again.keys
      → AreNamesSeen names (pieces_of (take (i + 1) elements)) new
  seen_more old new place once at are first second = record {
    once = first ∙ ap (λ l. insert_key nat_cmp l place) are.once ∙ once_inserted (pieces_of (take i elements)) piece_at names place once at ∙ up_to_next 1;
    again = second ∙ ap₂ (λ l m. cond (list_any (is_at (nat_cmp place)) l) (insert_key nat_cmp m place) m) are.once are.again
        ∙ again_inserted (pieces_of (take i elements)) piece_at names place once at ∙ up_to_next 2;
  }

-- ---- the names that break a rule

not_once : (n : ℕ) → not (nat_le 1 n) ≡ (n == 0)
not_once zero = refl
not_once (suc n) = ap not (le-leb 1 (suc n) (omega arith)) ∙ sym (ne_eqb (suc n) 0 (λ same. absurd (omega (arith, same))))

module _ (rule : OccurrenceRule) (names : List (List ℕ)) (fields : List Piece) where
  -- those that occur so often
  pub breaking_at : (least : ℕ) (places : List ℕ) → places ≡ places_of (occurs least fields) names → breaks_occurrence_rule rule ≡ nat_le least
      → filter_map (slice_get names) places ≡ breaking rule names fields
  breaking_at least places are breaks =
      ap (filter_map (slice_get names)) are ∙ names_at (occurs least fields) names ∙ ap (λ breaks. filter (λ name. breaks (occurrences fields name)) names) (sym breaks)

  -- those that don't occur
  pub breaking_besides : (places : List ℕ) → places ≡ places_of (occurs 1 fields) names → rule ≡ Present → filter_map (beside places) (enumerate_from 0 names) ≡ breaking rule names fields
  breaking_besides places are is =
      ap (λ l. filter_map (beside l) (enumerate_from 0 names)) are ∙ names_besides (occurs 1 fields) names
      ∙ filter_agree (λ name. not (occurs 1 fields name)) (λ name. occurrences fields name == 0) (λ name. not_once (occurrences fields name)) names
      ∙ ap (λ l. breaking l names fields) (sym is)
