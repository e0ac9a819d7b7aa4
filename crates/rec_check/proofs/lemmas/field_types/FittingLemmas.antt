-- The types of fields by their names, and whether values fit them.
use Rattle.std.proofs.Common.{◌≡◌, ◌∙◌, inl, inr, ℕ, ◌+◌, ◌<◌, Bool, true, false, ◌&&◌, ◌||◌, not, cond, List, [], ◌∷◌, ◌++◌, Option, Some, None, length, map, take, get_or, refl, ap, sym, arith}
use Rattle.std.proofs.Common.{unwrap_or}
use Rattle.std.specs.Prelude.{if◌then◌else◌}
use Rattle.std.proofs.lemmas.Bool.{cases_Bool}
use Rattle.std.proofs.lemmas.List.Folds.{list_any_more}
use Rattle.std.proofs.lemmas.Option.{slice_get-get_or, slice_get-map}
use Rattle.std.specs.List.{slice_get, enumerate_from, filter_map}
use Rattle.std.proofs.lemmas.List.{append-nil, append_assoc, length-map, length-take-le, map-append, map_more}
use Rattle.std.proofs.lemmas.List.Elements.{filter_map-append}
use Rattle.std.specs.Option.{option_map, option_and_then}
use Rattle.std.specs.Str.{bytes_eq}
use Rattle.regex.specs.Patterns.{Re}
use Rattle.rec_text.specs.declared.element.Element.{Element}
use Rattle.rec_text.specs.declared.element.Kind.TheVariants.{Field}
use Rattle.rec_text.specs.declared.violations.Rule.TheVariants.{Fit}
use Rattle.rec_text.specs.declared.violations.Violation.{Violation}
use Rattle.rec_text.specs.Elements.{Piece, name_of}
use Rattle.rec_text.specs.Places.{piece_of, pieces_of}
use Rattle.rec_text.specs.Records.{is_field_piece}
use Rattle.rec_text.specs.Values.{value_of}
use Rattle.rec_check.specs.Rules.{type_by, typing_for}
use Rattle.rec_check.specs.proving.Fitting.{FindLast}
use Rattle.rec_check.specs.Types.{FieldType, Typing, fits, unchecked}
use Rattle.rec_check.specs.Violations.{fails, misfits, type_violations, line_at, violation}
use Rattle.rec_text.specs.Bytes.{is_among}
use Rattle.rec_text.proofs.lemmas.ListLemmas.{bytes_eq-sym}
use Rattle.rec_check.proofs.lemmas.field_types.LastLemmas.{FindLast-nil, FindLast-more}
use Rattle.rec_text.proofs.lemmas.elements.ElementLemmas.{field_test, no_field_test}

-- ---- one value

pub fails-at : {X : Type 0} (f : X → FieldType Re) (xs : List X) (i : ℕ) (d : X) (value : List ℕ) (answer : Bool) → i < length xs → answer ≡ fits (f (get_or xs i d)) value
    → not answer ≡ fails (slice_get (map f xs) i) value
fails-at f xs i d value answer within is =
    ap not is ∙ sym (ap (λ o. fails o value) (slice_get-map f xs i ∙ ap (option_map f) (slice_get-get_or xs i d within)))

module _ (types : List ℕ → Option (FieldType Re)) (piece : Piece) where
  pub misfits-no_field : (piece.kind ≡ Field → ⊥) → false ≡ misfits types piece
  misfits-no_field other = sym (ap (λ b. b && fails (types (name_of piece)) (value_of piece)) (no_field_test piece.kind piece.bytes other))

  module _ (field : piece.kind ≡ Field) (name : List ℕ) (named : name ≡ name_of piece) where
    misfits-field : misfits types piece ≡ fails (types name) (value_of piece)
    misfits-field = ap (λ b. b && fails (types (name_of piece)) (value_of piece)) (field_test piece field) ∙ ap (λ n. fails (types n) (value_of piece)) (sym named)

    pub misfits-untyped : types name ≡ None → false ≡ misfits types piece
    misfits-untyped none = sym (misfits-field ∙ ap (λ o. fails o (value_of piece)) none)

    pub misfits-typed : (value_type : Option (FieldType Re)) (value : List ℕ) (answer : Bool) → types name ≡ value_type → value ≡ value_of piece → answer ≡ fails value_type value
        → answer ≡ misfits types piece
    misfits-typed value_type value answer typed is answered = answered ∙ sym (misfits-field ∙ ap (λ o. fails o (value_of piece)) typed ∙ ap (fails value_type) (sym is))

-- ---- the places of names

cond_or : (before now : Bool) (place old : Option ℕ) → cond now place (cond before place old) ≡ cond (before || now) place old
cond_or true true place old = refl
cond_or true false place old = refl
cond_or false true place old = refl
cond_or false false place old = refl

-- the names so far have a place, and the one after them
pub place_more : (names : List (List ℕ)) (i : ℕ) (name own value : List ℕ) (place old so_far new : Option ℕ) → i < length names → own ≡ get_or names i own → name ≡ own
    → so_far ≡ cond (is_among (take i names) value) place old → new ≡ cond (bytes_eq name value) place so_far → new ≡ cond (is_among (take (i + 1) names) value) place old
place_more names i name own value place old so_far new within at is reached put =
    put ∙ ap (λ o. cond (bytes_eq name value) place o) reached ∙ cond_or (is_among (take i names) value) (bytes_eq name value) place old
    ∙ ap (λ b. cond (is_among (take i names) value || b) place old) (bytes_eq-sym name value ∙ ap (bytes_eq value) (is ∙ at))
    ∙ ap (λ b. cond b place old) (sym (list_any_more (bytes_eq value) names i own within))

-- ---- one typing after another

-- the places of names lead to the types of fields
pub record LeadsTo (type_for : Typing → FieldType Re) (typings : List Typing) (types : List (FieldType Re)) (place : List ℕ → Option ℕ) : Type 0 where
  pub types_are : types ≡ map type_for typings
  pub places : FindLast (λ typing name. is_among typing.names name) typings place

pub LeadsTo-nil : (type_for : Typing → FieldType Re) (place : List ℕ → Option ℕ) (types : List (FieldType Re)) → types ≡ [] → ((name : List ℕ) → place name ≡ None) → LeadsTo type_for [] types place
LeadsTo-nil type_for place types none nowhere = record { types_are = none; places = FindLast-nil (λ typing name. is_among typing.names name) place nowhere }

module _ (type_for : Typing → FieldType Re) where
  pub LeadsTo-more : (typings more : List Typing) (typing : Typing) (types later : List (FieldType Re)) (place next : List ℕ → Option ℕ) (at : ℕ) → LeadsTo type_for typings types place
      → more ≡ typings ++ typing ∷ [] → later ≡ types ++ type_for typing ∷ [] → at ≡ length typings → ((name : List ℕ) → next name ≡ cond (is_among typing.names name) (Some at) (place name))
      → LeadsTo type_for more later next
  LeadsTo-more typings more typing types later place next at leads more_is later_is at_is put = record {
    types_are = later_is ∙ ap (λ ts. ts ++ type_for typing ∷ []) leads.types_are ∙ sym (map-append type_for typings (typing ∷ [])) ∙ ap (map type_for) (sym more_is);
    places = FindLast-more (λ t name. is_among t.names name) typings more typing place next at leads.places more_is at_is put;
  }

  found_mapped : (typings : List Typing) (place : Option ℕ) → option_and_then (slice_get (map type_for typings)) place ≡ option_map type_for (option_and_then (slice_get typings) place)
  found_mapped typings None = refl
  found_mapped typings (Some at) = slice_get-map type_for typings at

  pub LeadsTo-type : (typings : List Typing) (types : List (FieldType Re)) (place : List ℕ → Option ℕ) → LeadsTo type_for typings types place
      → (name : List ℕ) → option_and_then (slice_get types) (place name) ≡ option_map type_for (typing_for typings name)
  LeadsTo-type typings types place leads name =
      ap (λ ts. option_and_then (slice_get ts) (place name)) leads.types_are ∙ found_mapped typings (place name) ∙ ap (option_map type_for) (leads.places.finds name)

-- the same meanings give the same type
pub same_meant : (meaning same : List ℕ → FieldType Re → Option (FieldType Re)) → ((kind : List ℕ) (own : FieldType Re) → same kind own ≡ meaning kind own)
    → (found : Option Typing) → option_map (type_by same) found ≡ option_map (type_by meaning) found
same_meant meaning same are None = refl
same_meant meaning same are (Some typing) = ap (λ o. Some (unwrap_or o unchecked)) (are typing.kind typing.value_type)

-- ---- one field after another

pub enumerate_from-append : {X : Type 0} (n : ℕ) (some more : List X) → enumerate_from n (some ++ more) ≡ enumerate_from n some ++ enumerate_from (n + length some) more
enumerate_from-append n [] more = ap (λ k. enumerate_from k more) (omega arith)
enumerate_from-append n (x ∷ some) more = ap (λ l. (n, x) ∷ l) (enumerate_from-append (n + 1) some more ∙ ap (λ k. enumerate_from (n + 1) some ++ enumerate_from k more) (omega arith))

module _ (pieces : List Piece) (types : List ℕ → Option (FieldType Re)) (start : ℕ) where
  abbrev misfit : ℕ × Piece → Option Violation
  misfit (i, piece) = if misfits types piece then Some (violation (line_at pieces i) Fit (name_of piece)) else None

  type_violations-push : (fields : List Piece) (field : Piece)
      → type_violations pieces types start (fields ++ field ∷ [])
      ≡ type_violations pieces types start fields ++ cond (misfits types field) (violation (line_at pieces (start + length fields)) Fit (name_of field) ∷ []) []
  type_violations-push fields field =
      ap (filter_map misfit) (enumerate_from-append start fields (field ∷ [])) ∙ filter_map-append misfit (enumerate_from start fields) (enumerate_from (start + length fields) (field ∷ []))
      ∙ ap (λ l. type_violations pieces types start fields ++ l) (elim (cases_Bool (misfits types field)) [ inl fails ↦ rw fails refl | inr fits ↦ rw fits refl ])

  module _ (fields : List Element) (i : ℕ) (d : Element) (old found : List Violation) (within : i < length fields)
      (so_far : found ≡ old ++ type_violations pieces types start (pieces_of (take i fields))) where
    misfits_more : type_violations pieces types start (pieces_of (take (i + 1) fields))
        ≡ type_violations pieces types start (pieces_of (take i fields))
        ++ cond (misfits types (piece_of (get_or fields i d))) (violation (line_at pieces (start + i)) Fit (name_of (piece_of (get_or fields i d))) ∷ []) []
    misfits_more =
        let size : length (pieces_of (take i fields)) ≡ i = omega (arith, length-map (take i fields) piece_of, length-take-le i fields (omega arith)) in
        ap (type_violations pieces types start) (map_more piece_of fields i d within) ∙ type_violations-push (pieces_of (take i fields)) (piece_of (get_or fields i d))
        ∙ ap (λ n. type_violations pieces types start (pieces_of (take i fields))
        ++ cond (misfits types (piece_of (get_or fields i d))) (violation (line_at pieces (start + n)) Fit (name_of (piece_of (get_or fields i d))) ∷ []) []) size

    pub misfit_passed : misfits types (piece_of (get_or fields i d)) ≡ false → found ≡ old ++ type_violations pieces types start (pieces_of (take (i + 1) fields))
    misfit_passed fits =
        so_far ∙ ap (λ l. old ++ l) (sym (misfits_more
        ∙ ap (λ b. type_violations pieces types start (pieces_of (take i fields)) ++ cond b (violation (line_at pieces (start + i)) Fit (name_of (piece_of (get_or fields i d))) ∷ []) []) fits
        ∙ append-nil _))

    pub misfit_added : (line : ℕ) (name : List ℕ) (more : List Violation) → misfits types (piece_of (get_or fields i d)) ≡ true → line ≡ line_at pieces (start + i)
        → name ≡ name_of (piece_of (get_or fields i d))
        → more ≡ found ++ violation line Fit name ∷ [] → more ≡ old ++ type_violations pieces types start (pieces_of (take (i + 1) fields))
    misfit_added line name more fails is named added =
        let so_far_list : List Violation = type_violations pieces types start (pieces_of (take i fields)) in
        added ∙ ap (λ l. l ++ violation line Fit name ∷ []) so_far ∙ append_assoc old so_far_list (violation line Fit name ∷ [])
        ∙ ap (λ l. old ++ l) (ap (λ n. so_far_list ++ violation n Fit name ∷ []) is ∙ ap (λ n. so_far_list ++ violation (line_at pieces (start + i)) Fit n ∷ []) named
        ∙ sym (misfits_more ∙ ap (λ b. so_far_list ++ cond b (violation (line_at pieces (start + i)) Fit (name_of (piece_of (get_or fields i d))) ∷ []) []) fails))

-- the types stay the same
pub misfits-same : (types same : List ℕ → Option (FieldType Re)) (piece : Piece) → ((name : List ℕ) → same name ≡ types name) → misfits same piece ≡ misfits types piece
misfits-same types same piece are = ap (λ o. is_field_piece piece && fails o (value_of piece)) (are (name_of piece))
