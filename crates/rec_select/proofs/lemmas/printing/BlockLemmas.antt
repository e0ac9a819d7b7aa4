-- What is printed of one record, element by element.
use Rattle.std.proofs.Common.{◌≡◌, ℕ, ◌+◌, ◌<◌, ◌≤◌, Bool, true, false, not, ◌==◌, ◌||◌, List, [], ◌∷◌, ◌++◌, length, get_or, take, drop, map, zero, suc, refl, sym, ap, ◌∙◌, append-nil, arith}
use Rattle.std.specs.Prelude.{filter, filter_map, flat_map, slice_get, if◌then◌else◌}
use Rattle.std.specs.List.{list_any}
use Rattle.std.proofs.lemmas.Bool.{ne_eqb}
use Rattle.std.proofs.lemmas.List.{take_more, take-append-drop, map-append}
use Rattle.std.proofs.lemmas.List.Elements.{filter_map-append}
use Rattle.std.proofs.lemmas.List.Folds.{flat_map-map, list_any-append}
use Rattle.std.proofs.lemmas.Option.{slice_get-map, slice_get-get_or, slice_get_past}
use Rattle.std.proofs.lemmas.Grind.{flat_map-append}
use Rattle.rec_text.specs.Bytes.{ends_newline, is_nil, closed_text}
use Rattle.rec_text.specs.declared.element.Element.{Element}
use Rattle.rec_text.specs.declared.element.Kind.TheVariants.{Field}
use Rattle.rec_text.specs.Elements.{Piece}
use Rattle.rec_text.specs.Places.{piece_of, pieces_of}
use Rattle.rec_text.specs.Records.{is_field_piece}
use Rattle.rec_text.specs.Values.{value_of}
use Rattle.std.proofs.Math.Bool.{or-true}
use Rattle.rec_text.proofs.lemmas.elements.ElementLemmas.{no_field_test}
use Rattle.rec_text.proofs.lemmas.ListLemmas.{is_nil-push, join_with_byte-cons}
use Rattle.rec_select.specs.proving.Blocks.{spaced_value}
use Rattle.rec_select.specs.Printing.{printed_element, row_of, value_line}

-- ---- the last newline

pub closed-open : (text : List ℕ) → false ≡ ends_newline text → closed_text text ≡ text ++ 10 ∷ []
closed-open text e = rw (sym e) refl

-- ---- a text that is made element by element

-- what is made of the elements before one, of that one, and of those after it
pub cut_at : {A : Type 0} (f : List A → List ℕ) → ((xs ys : List A) → f (xs ++ ys) ≡ f xs ++ f ys) → (xs : List A) (i : ℕ) (d : A) → i < length xs
    → f xs ≡ (f (take i xs) ++ f (get_or xs i d ∷ [])) ++ f (drop (i + 1) xs)
cut_at f joins xs i d within =
    ap f (sym (take-append-drop (i + 1) xs)) ∙ joins (take (i + 1) xs) (drop (i + 1) xs)
    ∙ ap (λ t. t ++ f (drop (i + 1) xs)) (ap f (take_more xs i d within) ∙ joins (take i xs) (get_or xs i d ∷ []))

pub flat_map_at : (part : Piece → List ℕ) (elements : List Element) (i : ℕ) (d : Element) → i < length elements
    → flat_map part (pieces_of elements)
    ≡ (flat_map part (pieces_of (take i elements)) ++ part (piece_of (get_or elements i d))) ++ flat_map part (pieces_of (drop (i + 1) elements))
flat_map_at part elements i d within =
    let text : List Element → List ℕ = λ xs. flat_map part (pieces_of xs) in
    let joins : (xs ys : List Element) → text (xs ++ ys) ≡ text xs ++ text ys =
    λ xs ys. ap (flat_map part) (map-append piece_of xs ys) ∙ flat_map-append part (pieces_of xs) (pieces_of ys) in
    cut_at text joins elements i d within
    ∙ ap (λ t. (text (take i elements) ++ t) ++ text (drop (i + 1) elements)) (append-nil (part (piece_of (get_or elements i d))))

-- ---- whether a field is among elements

or-false : (a b : Bool) → a ≡ false → b ≡ false → (a || (b || false)) ≡ false
or-false a b e f = rw (e, f) refl

pub is_field-at : (elements : List Element) (i : ℕ) (d : Element) → i < length elements → (get_or elements i d).kind ≡ Field → list_any is_field_piece (pieces_of elements) ≡ true
is_field-at (element ∷ elements) zero d within e = rw e refl
is_field-at (element ∷ elements) (suc i) d within e =
    ap (λ b. is_field_piece (piece_of element) || b) (is_field-at elements i d (omega arith) e) ∙ or-true (is_field_piece (piece_of element))
is_field-at [] i d within e = absurd (omega arith)

pub is_field-other : (element : Element) → (element.kind ≡ Field → ⊥) → is_field_piece (piece_of element) ≡ false
is_field-other element other = no_field_test element.kind element.raw.now other

pub is_field-more : (elements : List Element) (i : ℕ) (d : Element) → i < length elements → ((get_or elements i d).kind ≡ Field → ⊥)
    → list_any is_field_piece (pieces_of (take i elements)) ≡ false → list_any is_field_piece (pieces_of (take (i + 1) elements)) ≡ false
is_field-more elements i d within other none =
    ap (λ es. list_any is_field_piece (pieces_of es)) (take_more elements i d within)
    ∙ ap (list_any is_field_piece) (map-append piece_of (take i elements) (get_or elements i d ∷ []))
    ∙ list_any-append is_field_piece (pieces_of (take i elements)) (piece_of (get_or elements i d) ∷ [])
    ∙ or-false (list_any is_field_piece (pieces_of (take i elements))) (is_field_piece (piece_of (get_or elements i d))) none (is_field-other (get_or elements i d) other)

-- ---- blocks without text

pub is_nil-append : (a b : List ℕ) → is_nil a ≡ false → is_nil (a ++ b) ≡ false
is_nil-append [] b e = cc
is_nil-append (c ∷ cs) b e = refl

is_nil-ended : (ended : Bool) (bytes : List ℕ) → ended ≡ ends_newline bytes → is_nil (if ended then bytes else bytes ++ 10 ∷ []) ≡ false
is_nil-ended true [] e = e
is_nil-ended true (b ∷ bs) e = refl
is_nil-ended false bytes e = is_nil-push bytes 10

pub is_nil-closed : (piece : Piece) → is_nil (printed_element piece) ≡ false
is_nil-closed piece = is_nil-ended (ends_newline piece.bytes) piece.bytes refl

pub is_nil-value_line : (piece : Piece) → is_nil (value_line piece) ≡ false
is_nil-value_line piece = is_nil-push (value_of piece) 10

-- elements that each have a text have none together only where there is none
pub is_nil-flat_map : (part : Piece → List ℕ) → ((piece : Piece) → is_nil (part piece) ≡ false) → (elements : List Element) → (length elements == 0) ≡ is_nil (flat_map part (pieces_of elements))
is_nil-flat_map part some [] = refl
is_nil-flat_map part some (element ∷ elements) =
    ne_eqb (length (element ∷ elements)) 0 (λ e. omega arith) ∙ sym (is_nil-append (part (piece_of element)) (flat_map part (pieces_of elements)) (some (piece_of element)))

is_nil-fields_cons : (is_field : Bool) (piece : Piece) (pieces : List Piece) → not (list_any is_field_piece pieces) ≡ is_nil (flat_map printed_element (filter is_field_piece pieces))
    → not (is_field || list_any is_field_piece pieces) ≡ is_nil (flat_map printed_element (if is_field then piece ∷ filter is_field_piece pieces else filter is_field_piece pieces))
is_nil-fields_cons true piece pieces rest = sym (is_nil-append (printed_element piece) (flat_map printed_element (filter is_field_piece pieces)) (is_nil-closed piece))
is_nil-fields_cons false piece pieces rest = rest

pub is_nil-fields : (pieces : List Piece) → not (list_any is_field_piece pieces) ≡ is_nil (flat_map printed_element (filter is_field_piece pieces))
is_nil-fields [] = refl
is_nil-fields (piece ∷ pieces) = is_nil-fields_cons (is_field_piece piece) piece pieces (is_nil-fields pieces)

-- ---- the picked elements

abbrev picks_in : List Element → List ℕ → List Piece
picks_in fields places = filter_map (λ place. slice_get (pieces_of fields) place) places

picks_in-more : (fields : List Element) (places : List ℕ) (i : ℕ) → i < length places
    → picks_in fields (take (i + 1) places) ≡ picks_in fields (take i places) ++ picks_in fields (get_or places i 0 ∷ [])
picks_in-more fields places i within =
    ap (picks_in fields) (take_more places i 0 within) ∙ filter_map-append (λ place. slice_get (pieces_of fields) place) (take i places) (get_or places i 0 ∷ [])

picks_in-within : (fields : List Element) (place : ℕ) (d : Element) → place < length fields → picks_in fields (place ∷ []) ≡ piece_of (get_or fields place d) ∷ []
picks_in-within fields place d within = rw (slice_get-map piece_of fields place, slice_get-get_or fields place d within) refl

picks_in-past : (fields : List Element) (place : ℕ) → length fields ≤ place → picks_in fields (place ∷ []) ≡ []
picks_in-past fields place past = rw (slice_get-map piece_of fields place, slice_get_past fields place past) refl

pub picked_with : (fields : List Element) (places : List ℕ) (i : ℕ) (elements more : List Element) (field : Element) → i < length places → get_or places i 0 < length fields
    → field ≡ get_or fields (get_or places i 0) field → more ≡ elements ++ field ∷ [] → pieces_of elements ≡ picks_in fields (take i places)
    → pieces_of more ≡ picks_in fields (take (i + 1) places)
picked_with fields places i elements more field within some is pushed so_far =
    ap pieces_of pushed ∙ map-append piece_of elements (field ∷ []) ∙ ap (λ t. t ++ piece_of field ∷ []) so_far
    ∙ ap (λ t. picks_in fields (take i places) ++ t) (ap (λ f. piece_of f ∷ []) is ∙ sym (picks_in-within fields (get_or places i 0) field some))
    ∙ sym (picks_in-more fields places i within)

pub picked_without : (fields : List Element) (places : List ℕ) (i : ℕ) (elements : List Element) → i < length places → length fields ≤ get_or places i 0
    → pieces_of elements ≡ picks_in fields (take i places) → pieces_of elements ≡ picks_in fields (take (i + 1) places)
picked_without fields places i elements within past so_far =
    so_far ∙ sym (append-nil (picks_in fields (take i places)))
    ∙ ap (λ t. picks_in fields (take i places) ++ t) (sym (picks_in-past fields (get_or places i 0) past))
    ∙ sym (picks_in-more fields places i within)

-- ---- rows

pub row_parts : (elements others : List Element) (first : Element) → elements ≡ first ∷ others
    → row_of (map value_of (pieces_of elements)) ≡ (value_of (piece_of first) ++ flat_map spaced_value (pieces_of others)) ++ 10 ∷ []
row_parts elements others first e =
    ap (λ es. row_of (map value_of (pieces_of es))) e
    ∙ ap (λ t. t ++ 10 ∷ []) (join_with_byte-cons 32 (value_of (piece_of first)) (map value_of (pieces_of others))
    ∙ ap (λ t. value_of (piece_of first) ++ t) (flat_map-map (λ y. 32 ∷ y) value_of (pieces_of others)))
