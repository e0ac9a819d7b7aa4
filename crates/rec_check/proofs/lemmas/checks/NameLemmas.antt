-- Lists of names: what is among them, and each name once.
use Rattle.std.proofs.Common.{◌≡◌, ◌∙◌, inl, inr, ℕ, ◌+◌, ◌<◌, Bool, true, false, ◌||◌, ◌&&◌, not, cond, List, [], ◌∷◌, ◌++◌, filter, length, map, take, get_or, refl, ap, sym}
use Rattle.std.proofs.lemmas.Bool.{cases_Bool}
use Rattle.std.proofs.lemmas.List.{append-nil, map-append, map_more, map_push, take_more}
use Rattle.std.proofs.lemmas.List.Elements.{filter-append}
use Rattle.std.proofs.lemmas.List.Folds.{list_any_more}
use Rattle.std.proofs.Math.Bool.{or_assoc}
use Rattle.std.specs.Borrow.{Bor}
use Rattle.std.specs.List.{list_any}
use Rattle.std.specs.Str.{bytes_eq}
use Rattle.rec_text.specs.declared.element.Element.{Element}
use Rattle.rec_text.specs.declared.element.Kind.TheVariants.{Blank}
use Rattle.rec_text.specs.Elements.{Piece, name_of}
use Rattle.rec_text.specs.Places.{piece_of, pieces_of}
use Rattle.rec_text.specs.Records.{is_field_piece}
use Rattle.rec_text.proofs.lemmas.ListLemmas.{same_bytes, bytes_eq-sym}
use Rattle.rec_text.specs.Bytes.{texts, is_among}
use Rattle.rec_sex.proofs.lemmas.meaning.EntryLemmas.{is_among-filter}
use Rattle.rec_check.specs.Violations.{names_of}
use Rattle.rec_check.specs.Words.{distinct}
use Rattle.rec_sex.proofs.lemmas.meaning.PlaceLemmas.{list_any-map}

-- ---- each once

is_among-distinct : (names : List (List ℕ)) (name : List ℕ) → is_among (distinct names) name ≡ is_among names name
is_among-distinct [] name = refl
is_among-distinct (first ∷ names) name = elim (cases_Bool (bytes_eq name first)) [
  | inl same ↦ rw same refl
  | inr other ↦ rw other
      (is_among-filter (λ o. not (bytes_eq first o)) (distinct names) name (ap not (bytes_eq-sym first name ∙ other)) ∙ is_among-distinct names name)
]

-- the names so far among some more, and the one after them
pub has_more : (more : List (List ℕ)) (i : ℕ) (name own value : List ℕ) (old so_far new : Bool) → i < length more → own ≡ get_or more i own → name ≡ own
    → so_far ≡ (old || is_among (take i more) value) → new ≡ (so_far || bytes_eq value name) → new ≡ (old || is_among (take (i + 1) more) value)
has_more more i name own value old so_far new within at is reached put =
    put ∙ ap (λ b. b || bytes_eq value name) reached ∙ or_assoc old (is_among (take i more) value) (bytes_eq value name)
    ∙ ap (λ n. old || (is_among (take i more) value || bytes_eq value n)) (is ∙ at) ∙ ap (λ b. old || b) (sym (list_any_more (bytes_eq value) more i own within))

-- one name more, which stands there already or doesn't
abbrev with_name : Bool → List (List ℕ) → List ℕ → List (List ℕ)
with_name among names name = cond among names (names ++ name ∷ [])

filter-with_name : (p : List ℕ → Bool) (names : List (List ℕ)) (name : List ℕ) (among : Bool) → p name ≡ true → filter p (with_name among names name) ≡ with_name among (filter p names) name
filter-with_name p names name true passes = refl
filter-with_name p names name false passes = filter-append p names (name ∷ []) ∙ ap (λ b. filter p names ++ cond b (name ∷ []) []) passes

filter-without_name : (p : List ℕ → Bool) (names : List (List ℕ)) (name : List ℕ) (among : Bool) → p name ≡ false → filter p (with_name among names name) ≡ filter p names
filter-without_name p names name true fails = refl
filter-without_name p names name false fails = filter-append p names (name ∷ []) ∙ ap (λ b. filter p names ++ cond b (name ∷ []) []) fails ∙ append-nil (filter p names)

cons-with_name : (first : List ℕ) (names : List (List ℕ)) (name : List ℕ) (among : Bool) → first ∷ with_name among names name ≡ with_name among (first ∷ names) name
cons-with_name first names name true = refl
cons-with_name first names name false = refl

distinct-push : (names : List (List ℕ)) (name : List ℕ) → distinct (names ++ name ∷ []) ≡ with_name (is_among names name) (distinct names) name
distinct-push [] name = refl
distinct-push (first ∷ names) name =
    let p : List ℕ → Bool = λ other. not (bytes_eq first other) in
    ap (λ l. first ∷ filter p l) (distinct-push names name) ∙ elim (cases_Bool (bytes_eq name first)) [
      | inl same ↦ ap (λ l. first ∷ l) (filter-without_name p (distinct names) name (is_among names name) (ap not (bytes_eq-sym first name ∙ same))) ∙ rw same refl
      | inr other ↦ ap (λ l. first ∷ l) (filter-with_name p (distinct names) name (is_among names name) (ap not (bytes_eq-sym first name ∙ other)))
          ∙ rw other (cons-with_name first (filter p (distinct names)) name (is_among names name))
    ]

distinct-old : (names : List (List ℕ)) (name : List ℕ) → is_among names name ≡ true → distinct (names ++ name ∷ []) ≡ distinct names
distinct-old names name among = distinct-push names name ∙ ap (λ b. with_name b (distinct names) name) among

distinct-new : (names : List (List ℕ)) (name : List ℕ) → is_among names name ≡ false → distinct (names ++ name ∷ []) ≡ distinct names ++ name ∷ []
distinct-new names name none = distinct-push names name ∙ ap (λ b. with_name b (distinct names) name) none

-- ---- some of them

module _ (p : List ℕ → Bool) where
  filter-swap : (q : List ℕ → Bool) (names : List (List ℕ)) → filter p (filter q names) ≡ filter q (filter p names)
  filter-swap q [] = refl
  filter-swap q (name ∷ names) = elim (cases_Bool (p name)) [
    | inl passes ↦ elim (cases_Bool (q name)) [
      | inl too ↦ rw (passes, too, passes) (ap (λ l. name ∷ l) (filter-swap q names))
      | inr fails ↦ rw (passes, fails) (filter-swap q names)
    ]
    | inr fails ↦ elim (cases_Bool (q name)) [
      | inl passes ↦ rw (fails, passes, fails) (filter-swap q names)
      | inr too ↦ rw (fails, too) (filter-swap q names)
    ]
  ]

  filter-twice : (names : List (List ℕ)) → filter p (filter p names) ≡ filter p names
  filter-twice [] = refl
  filter-twice (name ∷ names) = elim (cases_Bool (p name)) [
    | inl passes ↦ rw (passes, passes) (ap (λ l. name ∷ l) (filter-twice names))
    | inr fails ↦ rw fails (filter-twice names)
  ]

  -- without a name that doesn't pass anyway
  filter-without : (one : List ℕ) → p one ≡ false → (names : List (List ℕ)) → filter p (filter (λ other. not (bytes_eq one other)) names) ≡ filter p names
  filter-without one fails [] = refl
  filter-without one fails (name ∷ names) = elim (cases_Bool (bytes_eq one name)) [
    | inl same ↦ let too : p name ≡ false = ap p (sym (same_bytes one name same)) ∙ fails in rw (same, too) (filter-without one fails names)
    | inr other ↦ rw other (ap (λ l. cond (p name) (name ∷ l) l) (filter-without one fails names))
  ]

  -- those that pass, each once
  pub filter-distinct : (names : List (List ℕ)) → filter p (distinct names) ≡ distinct (filter p names)
  filter-distinct [] = refl
  filter-distinct (name ∷ names) =
      let others : List ℕ → Bool = λ other. not (bytes_eq name other) in
      elim (cases_Bool (p name)) [
        | inl passes ↦ rw passes (ap (λ l. name ∷ l) (filter-swap others (distinct names) ∙ ap (filter others) (filter-distinct names)))
        | inr fails ↦ rw fails (filter-without name fails (distinct names) ∙ filter-distinct names)
      ]

pub distinct-distinct : (names : List (List ℕ)) → distinct (distinct names) ≡ distinct names
distinct-distinct [] = refl
distinct-distinct (name ∷ names) =
    let others : List ℕ → Bool = λ other. not (bytes_eq name other) in
    ap (λ l. name ∷ l) (ap (filter others) (sym (filter-distinct others (distinct names)) ∙ ap (filter others) (distinct-distinct names)) ∙ filter-twice others (distinct names))

-- one more after names of which each stands there once
distinct-more : (names : List (List ℕ)) (name : List ℕ) → distinct (distinct names ++ name ∷ []) ≡ distinct (names ++ name ∷ [])
distinct-more names name =
    distinct-push (distinct names) name ∙ ap (λ b. with_name b (distinct (distinct names)) name) (is_among-distinct names name)
    ∙ ap (λ l. with_name (is_among names name) l name) (distinct-distinct names) ∙ sym (distinct-push names name)

-- ---- as they are kept

-- one more among names of which each stands there once
pub texts-added : (keys : List (Bor (List ℕ))) (name : Bor (List ℕ)) → distinct (texts keys) ≡ texts keys
    → texts (cond (list_any (λ key. bytes_eq name.now key.now) keys) keys (keys ++ name ∷ [])) ≡ distinct (texts keys ++ name.now ∷ [])
texts-added keys name once =
    let among : is_among (texts keys) name.now ≡ list_any (λ key. bytes_eq name.now key.now) keys = list_any-map (bytes_eq name.now) (λ one. one.now) keys in
    elim (cases_Bool (is_among (texts keys) name.now)) [
      | inl there ↦ ap (λ b. texts (cond b keys (keys ++ name ∷ []))) (sym among ∙ there) ∙ sym (distinct-old (texts keys) name.now there ∙ once)
      | inr none ↦
          ap (λ b. texts (cond b keys (keys ++ name ∷ []))) (sym among ∙ none) ∙ map_push (λ one. one.now) keys name
          ∙ ap (λ l. l ++ name.now ∷ []) (sym once) ∙ sym (distinct-new (texts keys) name.now none)
    ]

-- the names so far, each once, and the one after them
pub distinct_taken : (names : List (List ℕ)) (i : ℕ) (name own : List ℕ) (kept more : List (List ℕ)) → i < length names → name ≡ get_or names i name → own ≡ name
    → kept ≡ distinct (take i names) → more ≡ distinct (kept ++ own ∷ []) → more ≡ distinct (take (i + 1) names)
distinct_taken names i name own kept more within at is so_far added =
    added ∙ ap (λ l. distinct (l ++ own ∷ [])) so_far ∙ distinct-more (take i names) own ∙ ap (λ n. distinct (take i names ++ n ∷ [])) (is ∙ at)
    ∙ sym (ap distinct (take_more names i name within))

-- ---- names of fields that aren't allowed

-- a field whose name fails a test
abbrev pub is_refused : (List ℕ → Bool) → Piece → Bool
is_refused allows piece = is_field_piece piece && not (allows (name_of piece))

-- the names of these fields, each once
abbrev pub others : (List ℕ → Bool) → List Piece → List (List ℕ)
others allows pieces = filter (λ name. not (allows name)) (distinct (names_of pieces))

pub names_of-push : (pieces : List Piece) (piece : Piece) → names_of (pieces ++ piece ∷ []) ≡ names_of pieces ++ cond (is_field_piece piece) (name_of piece ∷ []) []
names_of-push pieces piece =
    ap (map name_of) (filter-append is_field_piece pieces (piece ∷ [])) ∙ map-append name_of (filter is_field_piece pieces) (filter is_field_piece (piece ∷ []))
    ∙ ap (λ l. names_of pieces ++ l) (elim (cases_Bool (is_field_piece piece)) [ inl field ↦ rw field refl | inr none ↦ rw none refl ])

module _ (allows : List ℕ → Bool) (pieces : List Piece) (piece : Piece) where
  abbrev refused : List (List ℕ) → List (List ℕ)
  refused names = filter (λ name. not (allows name)) names

  refused-push : refused (names_of (pieces ++ piece ∷ [])) ≡ refused (names_of pieces) ++ cond (is_refused allows piece) (name_of piece ∷ []) []
  refused-push =
      ap refused (names_of-push pieces piece) ∙ filter-append (λ name. not (allows name)) (names_of pieces) (cond (is_field_piece piece) (name_of piece ∷ []) [])
      ∙ ap (λ l. refused (names_of pieces) ++ l) (elim (cases_Bool (is_field_piece piece)) [ inl field ↦ rw field refl | inr none ↦ rw none refl ])

  others-is : (all : List Piece) → others allows all ≡ distinct (refused (names_of all))
  others-is all = filter-distinct (λ name. not (allows name)) (names_of all)

  others-passed : is_refused allows piece ≡ false → others allows (pieces ++ piece ∷ []) ≡ others allows pieces
  others-passed passes =
      others-is (pieces ++ piece ∷ []) ∙ ap distinct (refused-push ∙ ap (λ b. refused (names_of pieces) ++ cond b (name_of piece ∷ []) []) passes ∙ append-nil (refused (names_of pieces)))
      ∙ sym (others-is pieces)

  others-taken : is_refused allows piece ≡ true → others allows (pieces ++ piece ∷ []) ≡ distinct (others allows pieces ++ name_of piece ∷ [])
  others-taken fails =
      others-is (pieces ++ piece ∷ []) ∙ ap distinct (refused-push ∙ ap (λ b. refused (names_of pieces) ++ cond b (name_of piece ∷ []) []) fails)
      ∙ sym (distinct-more (refused (names_of pieces)) (name_of piece)) ∙ ap (λ l. distinct (l ++ name_of piece ∷ [])) (sym (others-is pieces))

-- what a proof reads past the end of elements
abbrev pub no_element : Element
no_element = record { kind = Blank; at = 0; raw = record { ref_ptr = (0, 0); now = [] } }

-- as a loop takes the elements
module _ (allows : List ℕ → Bool) (elements : List Element) (i : ℕ) (d : Element) (kept : List (List ℕ)) (within : i < length elements) (so_far : kept
    ≡ others allows (pieces_of (take i elements))) where
  abbrev element : Element
  element = get_or elements i d

  others_more : others allows (pieces_of (take (i + 1) elements)) ≡ others allows (pieces_of (take i elements) ++ piece_of element ∷ [])
  others_more = ap (others allows) (map_more piece_of elements i d within)

  pub others_passed : is_refused allows (piece_of element) ≡ false → kept ≡ others allows (pieces_of (take (i + 1) elements))
  others_passed passes = so_far ∙ sym (others_more ∙ others-passed allows (pieces_of (take i elements)) (piece_of element) passes)

  pub others_taken : (name : List ℕ) (more : List (List ℕ)) → is_refused allows (piece_of element) ≡ true → name ≡ name_of (piece_of element) → more ≡ distinct (kept ++ name ∷ [])
      → more ≡ others allows (pieces_of (take (i + 1) elements))
  others_taken name more fails named added =
      added ∙ ap (λ l. distinct (l ++ name ∷ [])) so_far ∙ ap (λ n. distinct (others allows (pieces_of (take i elements)) ++ n ∷ [])) named
      ∙ sym (others_more ∙ others-taken allows (pieces_of (take i elements)) (piece_of element) fails)
