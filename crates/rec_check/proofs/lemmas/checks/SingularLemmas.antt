-- The values that records of a set have in its singular fields.
use Rattle.std.proofs.Common.{◌≡◌, ◌∙◌, inl, inr, ℕ, ◌+◌, ◌<◌, Bool, true, false, ◌||◌, ◌&&◌, cond, eqb, List, [], ◌∷◌, ◌++◌, filter, length, position, take, get_or, Option, Some, None, refl, ap, ap₂}
use Rattle.std.proofs.Common.{sym}
use Rattle.std.proofs.lemmas.Bool.{and_parts, cases_Bool, eq-eqb, eqb-true, false≢true, or_left}
use Rattle.std.proofs.lemmas.List.{map_more}
use Rattle.std.proofs.lemmas.List.Folds.{list_any-append}
use Rattle.std.proofs.lemmas.List.Quantifiers.{position-Some}
use Rattle.std.proofs.lemmas.List.Sorted.{list_any-IsPermutation}
use Rattle.std.proofs.lemmas.Option.{none-some, same_Some}
use Rattle.std.proofs.Math.Bool.{and-false, and-true, or-false, or_assoc}
use Rattle.std.specs.BTreeSet.{insert_key}
use Rattle.std.specs.HashSet.{HashSet, PutsKey}
use Rattle.std.specs.List.{filter_map, list_any, slice_get}
use Rattle.std.specs.Option.{option_map_or}
use Rattle.std.specs.Ordering.{nat_cmp}
use Rattle.std.specs.Str.{bytes_eq}
use Rattle.rec_text.specs.declared.element.Element.{Element}
use Rattle.rec_text.specs.Elements.{Piece, name_of}
use Rattle.rec_text.specs.Places.{piece_of, pieces_of}
use Rattle.rec_text.specs.Values.{value_of}
use Rattle.rec_text.proofs.lemmas.ListLemmas.{same_bytes, bytes_eq-self, bytes_eq-sym}
use Rattle.rec_sex.specs.Meaning.{values_of}
use Rattle.rec_check.specs.proving.NamesSeen.{places_of}
use Rattle.rec_check.specs.Violations.{breaks_singular, stands_in}
use Rattle.rec_check.specs.Words.{distinct}
use Rattle.rec_text.specs.Bytes.{is_among}
use Rattle.rec_check.proofs.lemmas.descriptors.DescriptorLemmas.{values_of-append}
use Rattle.rec_sex.proofs.lemmas.meaning.PlaceLemmas.{or_comm}
use Rattle.rec_check.proofs.lemmas.checks.NamePlaceLemmas.{apart, names_at, places_agree, places_kept, places_next}
use Rattle.rec_check.proofs.lemmas.TypeLemmas.{list_any-position}

-- ---- the place of a name

-- two names have one place where they are the same
pub same_place : (names : List (List ℕ)) (a b : List ℕ) (i j : ℕ) → position (bytes_eq a) names ≡ Some i → position (bytes_eq b) names ≡ Some j → eqb i j ≡ bytes_eq a b
same_place names a b i j at_a at_b =
    let stands_a : a ≡ get_or names i [] = same_bytes a (get_or names i []) (position-Some (bytes_eq a) names i [] at_a).1 in
    let stands_b : b ≡ get_or names j [] = same_bytes b (get_or names j []) (position-Some (bytes_eq b) names j [] at_b).1 in
    elim (cases_Bool (bytes_eq a b)) [
      | inl same ↦ eq-eqb i j (same_Some i j (sym at_a ∙ ap (λ n. position (bytes_eq n) names) (same_bytes a b same) ∙ at_b)) ∙ sym same
      | inr apart ↦ elim (cases_Bool (eqb i j)) [
        | inl one ↦
            let same : a ≡ b = stands_a ∙ ap (λ k. get_or names k []) (eqb-true i j one) ∙ sym stands_b in
            absurd (false≢true (sym apart ∙ ap (λ n. bytes_eq n b) same ∙ bytes_eq-self b))
        | inr two ↦ two ∙ sym apart
      ]
    ]

-- ---- one record

list_any_agree : {X : Type 0} (p q : X → Bool) → ((x : X) → p x ≡ q x) → (xs : List X) → list_any p xs ≡ list_any q xs
list_any_agree p q agree [] = refl
list_any_agree p q agree (x ∷ xs) = ap₂ ◌||◌ (agree x) (list_any_agree p q agree xs)

-- the names of which the record has a value that was seen
pub broken_names : (names asked : List (List ℕ)) (has_seen : List ℕ → List ℕ → Bool) (earlier : List (List Piece)) (fields : List Piece) → names ≡ distinct asked
    → ((name value : List ℕ) → is_among names name ≡ true → has_seen name value ≡ stands_in name earlier value)
    → filter_map (slice_get names) (places_of (λ name. list_any (has_seen name) (values_of name fields)) names) ≡ filter (breaks_singular earlier fields) (distinct asked)
broken_names names asked has_seen earlier fields are seen =
    ap (filter_map (slice_get names))
    (places_agree 0 _ (breaks_singular earlier fields) names (λ name among. list_any_agree (has_seen name) (stands_in name earlier) (λ value. seen name value among) (values_of name fields)))
    ∙ names_at (breaks_singular earlier fields) names ∙ ap (filter (breaks_singular earlier fields)) are

-- ---- one field more

-- a value of this name was seen
abbrev pub has_broken : (List ℕ → List ℕ → Bool) → List Piece → List ℕ → Bool
has_broken has_seen fields name = list_any (has_seen name) (values_of name fields)

module _ (has_seen : List ℕ → List ℕ → Bool) (fields : List Piece) (piece : Piece) where
  abbrev broken_by : List Piece → List ℕ → Bool
  broken_by = has_broken has_seen

  abbrev repeats : Bool
  repeats = has_seen (name_of piece) (value_of piece)

  broken-push : (name : List ℕ) → broken_by (fields ++ piece ∷ []) name ≡ (broken_by fields name || (repeats && bytes_eq (name_of piece) name))
  broken-push name =
      ap (list_any (has_seen name)) (values_of-append name fields piece) ∙ list_any-append (has_seen name) (values_of name fields) (cond (bytes_eq (name_of piece) name) (value_of piece ∷ []) [])
      ∙ ap (λ b. broken_by fields name || b) (elim (cases_Bool (bytes_eq (name_of piece) name)) [
        | inl same ↦ rw same (or-false (has_seen name (value_of piece)) ∙ ap (λ n. has_seen n (value_of piece)) (sym (same_bytes (name_of piece) name same)) ∙ sym (and-true repeats))
        | inr other ↦ rw other (sym (and-false repeats))
      ])

-- as a loop takes the elements
module _ (has_seen : List ℕ → List ℕ → Bool) (elements : List Element) (i : ℕ) (d : Element) (within : i < length elements) (names : List (List ℕ)) where
  abbrev element : Element
  element = get_or elements i d

  abbrev is_repeated : Bool
  is_repeated = has_seen (name_of (piece_of element)) (value_of (piece_of element))

  abbrev places_up_to : ℕ → List ℕ
  places_up_to n = places_of (has_broken has_seen (pieces_of (take n elements))) names

  up_to_next : places_of (has_broken has_seen (pieces_of (take i elements) ++ piece_of element ∷ [])) names ≡ places_up_to (i + 1)
  up_to_next = ap (λ l. places_of (has_broken has_seen l) names) (sym (map_more piece_of elements i d within))

  pub broken_passed : is_repeated ≡ false → places_up_to i ≡ places_up_to (i + 1)
  broken_passed new = places_kept _ _ is_repeated (name_of (piece_of element)) names (broken-push has_seen (pieces_of (take i elements)) (piece_of element)) new ∙ up_to_next

  pub broken_met : (place : ℕ) → distinct names ≡ names → is_repeated ≡ true → position (bytes_eq (name_of (piece_of element))) names ≡ Some place
      → insert_key nat_cmp (places_up_to i) place ≡ places_up_to (i + 1)
  broken_met place once old at =
      ap (λ b. cond b (insert_key nat_cmp (places_up_to i) place) (places_up_to i)) (sym old)
      ∙ places_next _ _ is_repeated (name_of (piece_of element)) names place (broken-push has_seen (pieces_of (take i elements)) (piece_of element)) once at ∙ up_to_next

-- ---- values that are seen

-- a value, with the place of its field's name, is put into a set
module _ {K S : Type 0} (place_of : K → ℕ) (text : K → List ℕ) (old new : HashSet K S) (key : K) where
  abbrev seen_at : List K → List ℕ → ℕ → Bool
  seen_at keys value place = list_any (λ k. eqb place (place_of k) && bytes_eq value (text k)) keys

  pub seen-put : (added : Bool) → PutsKey old new key added → (added ≡ false → seen_at old.keys (text key) (place_of key) ≡ true) → (value : List ℕ) (place : ℕ)
      → seen_at new.keys value place ≡ (seen_at old.keys value place || (eqb place (place_of key) && bytes_eq value (text key)))
  seen-put true puts known value place =
      sym (list_any-IsPermutation (λ k. eqb place (place_of k) && bytes_eq value (text k)) (key ∷ old.keys) new.keys puts)
      ∙ or_comm (eqb place (place_of key) && bytes_eq value (text key)) (seen_at old.keys value place)
  seen-put false puts known value place =
      let own : Bool = eqb place (place_of key) && bytes_eq value (text key) in
      ap (λ keys. seen_at keys value place) puts ∙ elim (cases_Bool own) [
        | inl same ↦
            let parts = and_parts (eqb place (place_of key)) (bytes_eq value (text key)) same in
            let there : seen_at old.keys value place ≡ true =
            ap₂ (seen_at old.keys) (same_bytes value (text key) parts.1) (eqb-true place (place_of key) parts.0) ∙ known refl in
            there ∙ sym (or_left (seen_at old.keys value place) own there)
        | inr apart ↦ sym (ap (λ b. seen_at old.keys value place || b) apart ∙ or-false (seen_at old.keys value place))
      ]

-- a field of a name that stands among these had the value
abbrev pub seen_by : (List ℕ → ℕ → Bool) → List (List ℕ) → List ℕ → List ℕ → Bool
seen_by at names name value = option_map_or (at value) (position (bytes_eq name) names) false

place_among : (names : List (List ℕ)) (name : List ℕ) (place : Option ℕ) → position (bytes_eq name) names ≡ place → is_among names name ≡ true → (k : ℕ) × (position (bytes_eq name) names ≡ Some k)
place_among names name None is among = absurd (false≢true (sym (list_any-position (bytes_eq name) names is) ∙ among))
place_among names name (Some k) is among = (k, is)

module _ (names : List (List ℕ)) (piece : Piece) (name value : List ℕ) (among : is_among names name ≡ true) where
  abbrev is_own : Bool
  is_own = is_among (values_of name (piece ∷ [])) value

  is_own-is : is_own ≡ (bytes_eq (name_of piece) name && bytes_eq value (value_of piece))
  is_own-is = elim (cases_Bool (bytes_eq (name_of piece) name)) [
    | inl same ↦ rw same (or-false (bytes_eq value (value_of piece)))
    | inr other ↦ rw other refl
  ]

  -- a field of another name adds none
  pub seen_other : (at : List ℕ → ℕ → Bool) → position (bytes_eq (name_of piece)) names ≡ None → seen_by at names name value ≡ (seen_by at names name value || is_own)
  seen_other at none =
      let other : bytes_eq (name_of piece) name ≡ false = apart (name_of piece) names none name among in
      sym (ap (λ b. seen_by at names name value || b) (is_own-is ∙ ap (λ b. b && bytes_eq value (value_of piece)) other) ∙ or-false (seen_by at names name value))

  pub seen_own : (old new : List ℕ → ℕ → Bool) (i : ℕ) → position (bytes_eq (name_of piece)) names ≡ Some i
      → ((value : List ℕ) (place : ℕ) → new value place ≡ (old value place || (eqb place i && bytes_eq value (value_of piece))))
      → seen_by new names name value ≡ (seen_by old names name value || is_own)
  seen_own old new i at put =
      let place = place_among names name (position (bytes_eq name) names) refl among in
      let k : ℕ = place.0 in
      let here : (at : List ℕ → ℕ → Bool) → seen_by at names name value ≡ at value k = λ at. ap (λ o. option_map_or (at value) o false) place.1 in
      here new ∙ put value k ∙ ap (λ b. old value k || (b && bytes_eq value (value_of piece))) (same_place names name (name_of piece) k i place.1 at ∙ bytes_eq-sym name (name_of piece))
      ∙ ap₂ ◌||◌ (sym (here old)) (sym is_own-is)

-- the place of a value that was seen
repeated_at : (at : ℕ → Bool) (place : Option ℕ) → cond (option_map_or at place false) place None ≡ None → option_map_or at place false ≡ false
repeated_at at None none = refl
repeated_at at (Some k) none = elim (cases_Bool (at k)) [
  | inl seen ↦ absurd (none-some k (sym none ∙ ap (λ b. cond b (Some k) None) seen))
  | inr new ↦ new
]

repeated_there : (at : ℕ → Bool) (place : Option ℕ) (k : ℕ) → Some k ≡ cond (option_map_or at place false) place None → (option_map_or at place false ≡ true) × (place ≡ Some k)
repeated_there at None k is = absurd (none-some k (sym is))
repeated_there at (Some i) k is = elim (cases_Bool (at i)) [
  | inl seen ↦ (seen, sym (is ∙ ap (λ b. cond b (Some i) None) seen))
  | inr new ↦ absurd (none-some k (sym (is ∙ ap (λ b. cond b (Some i) None) new)))
]

pub not_repeated : (at : List ℕ → ℕ → Bool) (names : List (List ℕ)) (name value : List ℕ) (place : Option ℕ) → place ≡ None
    → place ≡ cond (seen_by at names name value) (position (bytes_eq name) names) None → seen_by at names name value ≡ false
not_repeated at names name value place none is = repeated_at (at value) (position (bytes_eq name) names) (sym is ∙ none)

pub repeated : (at : List ℕ → ℕ → Bool) (names : List (List ℕ)) (name value : List ℕ) (k : ℕ)
    → Some k ≡ cond (seen_by at names name value) (position (bytes_eq name) names) None → (seen_by at names name value ≡ true) × (position (bytes_eq name) names ≡ Some k)
repeated at names name value k is = repeated_there (at value) (position (bytes_eq name) names) k is

-- one record more
pub stands_more : (name value : List ℕ) (earlier : List (List Piece)) (fields : List Piece) (old new : Bool) → old ≡ stands_in name earlier value
    → new ≡ (old || is_among (values_of name fields) value) → new ≡ stands_in name (earlier ++ fields ∷ []) value
stands_more name value earlier fields old new before put =
    let test : List Piece → Bool = λ own. is_among (values_of name own) value in
    put ∙ ap₂ ◌||◌ before (sym (or-false (test fields))) ∙ sym (list_any-append test earlier (fields ∷ []))

-- the values of a record's fields so far, and that of the one after them
pub seen_more : (elements : List Element) (i : ℕ) (d : Element) (name value : List ℕ) (old so_far new : Bool) → i < length elements
    → so_far ≡ (old || is_among (values_of name (pieces_of (take i elements))) value) → new ≡ (so_far || is_among (values_of name (piece_of (get_or elements i d) ∷ [])) value)
    → new ≡ (old || is_among (values_of name (pieces_of (take (i + 1) elements))) value)
seen_more elements i d name value old so_far new within reached put =
    let prefix : List Piece = pieces_of (take i elements) in
    let piece : Piece = piece_of (get_or elements i d) in
    put ∙ ap (λ b. b || is_among (values_of name (piece ∷ [])) value) reached ∙ or_assoc old (is_among (values_of name prefix) value) (is_among (values_of name (piece ∷ [])) value)
    ∙ ap (λ b. old || b) (sym (list_any-append (bytes_eq value) (values_of name prefix) (values_of name (piece ∷ []))))
    ∙ ap (λ l. old || is_among l value) (sym (values_of-append name prefix piece))
    ∙ ap (λ l. old || is_among (values_of name l) value) (sym (map_more piece_of elements i d within))
