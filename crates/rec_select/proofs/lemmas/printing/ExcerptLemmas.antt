-- Elements that stand in a text one after another: their parts, and the text of each part.
use Rattle.std.proofs.Common.{◌≡◌, ℕ, ◌+◌, ◌-◌, ◌<◌, ◌≤◌, Bool, true, false, List, [], ◌∷◌, ◌++◌, Option, Some, None, length, length-append, take, drop, get_or, suc, refl, sym, ap, subst, ◌∙◌, ◌⊎◌}
use Rattle.std.proofs.Common.{inl, inr, ◌==◌, append-nil, append_assoc, arith}
use Rattle.std.specs.Prelude.{filter, flat_map, slice_get}
use Rattle.std.specs.List.{AllByRecursion}
use Rattle.std.proofs.lemmas.Bool.{false≢true}
use Rattle.std.proofs.lemmas.Option.{slice_get-get_or}
use Rattle.std.proofs.lemmas.List.{take_at, drop_at, drop_all, take_all, take_more, take-append-drop, drop-append-le, length-take, length-take-le, length-map, get_or-map, map-append}
use Rattle.std.proofs.lemmas.List.Elements.{filter-append}
use Rattle.std.proofs.lemmas.Grind.{flat_map-append}
use Rattle.rec_text.specs.Bytes.{ends_newline, is_nil, closed_text}
use Rattle.rec_text.specs.declared.element.Element.{Element}
use Rattle.rec_text.specs.declared.element.Kind.{Kind}
use Rattle.rec_text.specs.declared.element.Kind.TheVariants.{Blank, Comment, Field}
use Rattle.rec_text.specs.Elements.{Piece, IsElement, EndInNewlines, AreElementsOf, text_of}
use Rattle.rec_text.specs.Places.{piece_of, pieces_of, AreFrom}
use Rattle.rec_text.specs.Records.{is_field_piece}
use Rattle.rec_text.proofs.lemmas.elements.ElementLemmas.{text_of-append}
use Rattle.rec_text.proofs.lemmas.ListLemmas.{AllByRecursion-following, AllByRecursion-prefix, is_nil-length}
use Rattle.rec_select.specs.proving.Excerpts.{IsExcerpt}
use Rattle.rec_select.specs.Printing.{printed_element}
use Rattle.rec_select.proofs.lemmas.printing.BlockLemmas.{is_nil-append}

-- ---- lists of elements, one after another

EndInNewlines-prefix : (xs ys : List Piece) → EndInNewlines (xs ++ ys) → EndInNewlines xs
EndInNewlines-prefix [] ys ends = tt
EndInNewlines-prefix (x ∷ []) ys ends = tt
EndInNewlines-prefix (x ∷ y ∷ xs) ys ends = (ends.0, EndInNewlines-prefix (y ∷ xs) ys ends.1)

EndInNewlines-following : (xs ys : List Piece) → EndInNewlines (xs ++ ys) → EndInNewlines ys
EndInNewlines-following [] ys ends = ends
EndInNewlines-following (x ∷ []) [] ends = tt
EndInNewlines-following (x ∷ []) (y ∷ ys) ends = ends.1
EndInNewlines-following (x ∷ y ∷ xs) ys ends = EndInNewlines-following (y ∷ xs) ys ends.1

AreFrom-prefix : (at : ℕ) (xs ys : List Element) → AreFrom at (xs ++ ys) → AreFrom at xs
AreFrom-prefix at [] ys from = tt
AreFrom-prefix at (x ∷ xs) ys from = (from.0, AreFrom-prefix (at + length x.raw.now) xs ys from.1)

AreFrom-following : (at : ℕ) (xs ys : List Element) → AreFrom at (xs ++ ys) → AreFrom (at + length (text_of (pieces_of xs))) ys
AreFrom-following at [] ys from =
    let P : ℕ → Type 0 = λ n. AreFrom n ys in
    let same : at ≡ at + 0 = omega arith in
    subst P same from
AreFrom-following at (x ∷ xs) ys from =
    let P : ℕ → Type 0 = λ n. AreFrom n ys in
    let same : at + length x.raw.now + length (text_of (pieces_of xs)) ≡ at + length (x.raw.now ++ text_of (pieces_of xs)) =
    omega (arith, length-append x.raw.now (text_of (pieces_of xs))) in
    subst P same (AreFrom-following (at + length x.raw.now) xs ys from.1)

-- ---- a part of elements that stand in a text

joined_parts : (prefix first second third following : List ℕ) → prefix ++ ((first ++ (second ++ third)) ++ following) ≡ (prefix ++ first) ++ (second ++ (third ++ following))
joined_parts prefix first second third following = simp append_assoc

module _ (text : List ℕ) (xs ys zs : List Element) (are : IsExcerpt text (xs ++ (ys ++ zs))) where
  three : pieces_of (xs ++ (ys ++ zs)) ≡ pieces_of xs ++ (pieces_of ys ++ pieces_of zs)
  three = map-append piece_of xs (ys ++ zs) ∙ ap (λ t. pieces_of xs ++ t) (map-append piece_of ys zs)

  part_is : are.part ≡ text_of (pieces_of xs) ++ (text_of (pieces_of ys) ++ text_of (pieces_of zs))
  part_is =
      sym are.whole.joined ∙ ap text_of three ∙ text_of-append (pieces_of xs) (pieces_of ys ++ pieces_of zs)
      ∙ ap (λ t. text_of (pieces_of xs) ++ t) (text_of-append (pieces_of ys) (pieces_of zs))

  IsExcerpt-middle : IsExcerpt text ys
  IsExcerpt-middle =
      let P : List Piece → Type 0 = λ ps. AllByRecursion IsElement ps in
      let E : List Piece → Type 0 = λ ps. EndInNewlines ps in
      let F : ℕ → Type 0 = λ n. AreFrom n ys in
      let formed = AllByRecursion-following IsElement (pieces_of xs) (pieces_of ys ++ pieces_of zs) (subst P three are.whole.well_formed) in
      let ends = EndInNewlines-following (pieces_of xs) (pieces_of ys ++ pieces_of zs) (subst E three are.whole.lines_end) in
      record {
        prefix = are.prefix ++ text_of (pieces_of xs);
        part = text_of (pieces_of ys);
        following = text_of (pieces_of zs) ++ are.following;
        parts = are.parts ∙ ap (λ t. are.prefix ++ (t ++ are.following)) part_is ∙ joined_parts are.prefix (text_of (pieces_of xs)) (text_of (pieces_of ys)) (text_of (pieces_of zs)) are.following;
        whole = record {
          joined = refl;
          well_formed = AllByRecursion-prefix IsElement (pieces_of ys) (pieces_of zs) formed;
          lines_end = EndInNewlines-prefix (pieces_of ys) (pieces_of zs) ends;
        };
        places = subst F (sym (length-append are.prefix (text_of (pieces_of xs)))) (AreFrom-prefix _ ys zs (AreFrom-following (length are.prefix) xs (ys ++ zs) are.places));
      }

pub IsExcerpt-sliced : (text : List ℕ) (elements : List Element) (start count : ℕ) → IsExcerpt text elements → IsExcerpt text (take count (drop start elements))
IsExcerpt-sliced text elements start count are =
    let P : List Element → Type 0 = λ es. IsExcerpt text es in
    let rest : List Element = drop start elements in
    let parts : elements ≡ take start elements ++ (take count rest ++ drop count rest) =
    sym (take-append-drop start elements) ∙ ap (λ t. take start elements ++ t) (sym (take-append-drop count rest)) in
    IsExcerpt-middle text (take start elements) (take count rest) (drop count rest) (subst P parts are)

pub IsExcerpt-whole : (text : List ℕ) (pieces : List Piece) (elements : List Element) → text ≡ text_of pieces → pieces_of elements ≡ pieces → AreElementsOf pieces (text_of pieces) → AreFrom 0 elements
    → IsExcerpt text elements
IsExcerpt-whole text pieces elements is same whole places =
    let P : List Piece → Type 0 = λ ps. AreElementsOf ps (text_of pieces) in
    record {
      prefix = [];
      part = text_of pieces;
      following = [];
      parts = is ∙ sym (append-nil (text_of pieces));
      whole = subst P (sym same) whole;
      places = places;
    }

-- ---- the text of elements

last_ends : (at : ℕ) (elements : List Element) (last : Element) → Some last ≡ slice_get elements (length elements - 1) → AreFrom at elements
    → last.at + length last.raw.now ≡ at + length (text_of (pieces_of elements))
last_ends at [] last is from = cc
last_ends at (e ∷ []) last is from =
    let same : last ≡ e = cc in
    rw (same, append-nil e.raw.now) (omega (arith, from.0))
last_ends at (e ∷ d ∷ es) last is from =
    let following : length (e ∷ d ∷ es) - 1 ≡ suc (length (d ∷ es) - 1) = omega arith in
    let is_last : Some last ≡ slice_get (d ∷ es) (length (d ∷ es) - 1) = is ∙ ap (slice_get (e ∷ d ∷ es)) following in
    omega (arith, last_ends (at + length e.raw.now) (d ∷ es) last is_last from.1, length-append e.raw.now (text_of (pieces_of (d ∷ es))))

module _ (text : List ℕ) (elements : List Element) (last : Element) (are : IsExcerpt text elements) (last_is : Some last ≡ slice_get elements (length elements - 1)) where
  end_is : last.at + length last.raw.now ≡ length are.prefix + length (text_of (pieces_of elements))
  end_is = last_ends (length are.prefix) elements last last_is are.places

  parts_are : text ≡ are.prefix ++ (text_of (pieces_of elements) ++ are.following)
  parts_are = are.parts ∙ ap (λ t. are.prefix ++ (t ++ are.following)) (sym are.whole.joined)

  pub ends_within : last.at + length last.raw.now ≤ length text
  ends_within =
      omega (arith, end_is, ap length parts_are, length-append are.prefix (text_of (pieces_of elements) ++ are.following), length-append (text_of (pieces_of elements)) are.following)

  module _ (first : Element) (first_is : Some first ≡ slice_get elements 0) where
    begins : (es : List Element) → Some first ≡ slice_get es 0 → AreFrom (length are.prefix) es → first.at ≡ length are.prefix
    begins [] is from = cc
    begins (e ∷ es) is from = cc (from.0)

    begin_is : first.at ≡ length are.prefix
    begin_is = begins elements first_is are.places

    pub in_order : first.at ≤ last.at + length last.raw.now
    in_order = omega (arith, begin_is, end_is)

    pub text_between : take (last.at + length last.raw.now - first.at) (drop first.at text) ≡ text_of (pieces_of elements)
    text_between =
        let count : last.at + length last.raw.now - first.at ≡ length (text_of (pieces_of elements)) = omega (arith, begin_is, end_is) in
        rw (count, parts_are, drop_at are.prefix (text_of (pieces_of elements) ++ are.following) first.at (sym begin_is))
        (take_at (text_of (pieces_of elements)) are.following (length (text_of (pieces_of elements))) refl)

pub no_text : (elements : List Element) (first last : Option Element) → first ≡ slice_get elements 0 → last ≡ slice_get elements (length elements - 1) → (first ≡ None) ⊎ (last ≡ None)
    → [] ≡ text_of (pieces_of elements)
no_text [] first last is_first is_last none = refl
no_text (e ∷ es) first last is_first is_last (inl none) = cc
no_text (e ∷ es) first last is_first is_last (inr none) = let more : length (e ∷ es) - 1 < length (e ∷ es) = omega arith in cc (slice_get-get_or (e ∷ es) (length (e ∷ es) - 1) e more)

-- ---- elements with a newline at the end of each

ends_newline-following : (prefix text : List ℕ) → is_nil text ≡ false → ends_newline (prefix ++ text) ≡ ends_newline text
ends_newline-following [] text some = refl
ends_newline-following (b ∷ []) [] some = cc
ends_newline-following (b ∷ []) (c ∷ text) some = refl
ends_newline-following (b ∷ c ∷ prefix) text some = ends_newline-following (c ∷ prefix) text some

closed_after : (prefix text : List ℕ) (ends : Bool) → ends ≡ ends_newline text → is_nil text ≡ false → closed_text (prefix ++ text) ≡ prefix ++ closed_text text
closed_after prefix text true is some = rw (ends_newline-following prefix text some, ← is) refl
closed_after prefix text false is some = rw (ends_newline-following prefix text some, ← is) (append_assoc prefix text (10 ∷ []))

has_bytes : (kind : Kind) (bytes : List ℕ) → IsElement (record { kind = kind; bytes = bytes }) → is_nil bytes ≡ false
has_bytes Blank [] is = sym is
has_bytes Comment [] is = sym is
has_bytes Field [] is = sym is
has_bytes kind (b ∷ bs) is = refl

has_text : (piece : Piece) (pieces : List Piece) → IsElement piece → is_nil (text_of (piece ∷ pieces)) ≡ false
has_text piece pieces is = is_nil-append piece.bytes (text_of pieces) (has_bytes piece.kind piece.bytes is)

pub closed_none : (pieces : List Piece) (text : List ℕ) → text ≡ text_of pieces → AreElementsOf pieces (text_of pieces) → true ≡ (length text == 0) → [] ≡ flat_map printed_element pieces
closed_none [] text is are empty = refl
closed_none (piece ∷ pieces) text is are empty =
    absurd (false≢true (sym (has_text piece pieces are.well_formed.0) ∙ ap is_nil (sym is) ∙ is_nil-length text ∙ sym empty))

closed-ended : (piece : Piece) → ends_newline piece.bytes ≡ true → piece.bytes ≡ printed_element piece
closed-ended piece ends = rw ends refl

closed_each : (piece : Piece) (pieces : List Piece) → AllByRecursion IsElement (piece ∷ pieces) → EndInNewlines (piece ∷ pieces)
    → closed_text (text_of (piece ∷ pieces)) ≡ flat_map printed_element (piece ∷ pieces)
closed_each piece [] formed ends = rw (append-nil piece.bytes, append-nil (printed_element piece)) refl
closed_each piece (next ∷ pieces) formed ends =
    let rest = closed_each next pieces formed.1 ends.1 in
    closed_after piece.bytes (text_of (next ∷ pieces)) (ends_newline (text_of (next ∷ pieces))) refl (has_text next pieces formed.1.0)
    ∙ ap (λ t. piece.bytes ++ t) rest ∙ ap (λ t. t ++ flat_map printed_element (next ∷ pieces)) (closed-ended piece ends.0)

pub closed_some : (pieces : List Piece) (text : List ℕ) → text ≡ text_of pieces → AreElementsOf pieces (text_of pieces) → false ≡ (length text == 0)
    → closed_text text ≡ flat_map printed_element pieces
closed_some [] text is are some = absurd (false≢true (some ∙ sym (is_nil-length text) ∙ ap is_nil is))
closed_some (piece ∷ pieces) text is are some = ap closed_text is ∙ closed_each piece pieces are.well_formed are.lines_end

-- ---- the fields among elements, run by run

-- what is printed of the fields
abbrev pub fields_text : List Piece → List ℕ
fields_text pieces = flat_map printed_element (filter is_field_piece pieces)

fields_text-append : (xs ys : List Piece) → fields_text (xs ++ ys) ≡ fields_text xs ++ fields_text ys
fields_text-append xs ys = ap (flat_map printed_element) (filter-append is_field_piece xs ys) ∙ flat_map-append printed_element (filter is_field_piece xs) (filter is_field_piece ys)

fields_text-one : (piece : Piece) → true ≡ is_field_piece piece → fields_text (piece ∷ []) ≡ printed_element piece
fields_text-one piece is = rw (← is) (append-nil (printed_element piece))

fields_text-other : (piece : Piece) → false ≡ is_field_piece piece → fields_text (piece ∷ []) ≡ []
fields_text-other piece is = rw (← is) refl

-- the elements from one index up to another
abbrev pub run : List Piece → ℕ → ℕ → List Piece
run pieces start at = drop start (take at pieces)

module _ (pieces : List Piece) where
  -- from one index up to another fields alone stand
  pub record IsFieldRun (start at : ℕ) : Type 0 where
    pub ordered : start ≤ at
    pub text : fields_text (take at pieces) ≡ fields_text (take start pieces) ++ flat_map printed_element (run pieces start at)

  pub no_run : (at : ℕ) → IsFieldRun at at
  no_run at =
      let none : run pieces at at ≡ [] = drop_all at (take at pieces) (omega (arith, length-take at pieces)) in
      record { ordered = omega arith; text = sym (ap (λ ps. fields_text (take at pieces) ++ flat_map printed_element ps) none ∙ append-nil (fields_text (take at pieces))) }

  module _ (start at : ℕ) (so_far : IsFieldRun start at) where
    text_to : (part : List Piece) → part ≡ run pieces start at → fields_text (take at pieces) ≡ fields_text (take start pieces) ++ flat_map printed_element part
    text_to part is = so_far.text ∙ ap (λ ps. fields_text (take start pieces) ++ flat_map printed_element ps) (sym is)

    pub run_whole : (part : List Piece) → part ≡ run pieces start at → fields_text pieces ≡ (fields_text (take start pieces) ++ flat_map printed_element part) ++ fields_text (drop at pieces)
    run_whole part is = ap fields_text (sym (take-append-drop at pieces)) ∙ fields_text-append (take at pieces) (drop at pieces) ∙ ap (λ t. t ++ fields_text (drop at pieces)) (text_to part is)

    pub last_run : (part : List Piece) (size : ℕ) → part ≡ run pieces start size → length pieces ≤ size → length pieces ≤ at
        → fields_text (take start pieces) ++ flat_map printed_element part ≡ fields_text pieces
    last_run part size is whole past =
        let same : take size pieces ≡ take at pieces = take_all size pieces whole ∙ sym (take_all at pieces past) in
        sym (text_to part (is ∙ ap (drop start) same)) ∙ ap fields_text (take_all at pieces past)

    module _ (elements : List Element) (default : Element) (same : pieces_of elements ≡ pieces) (some : at < length elements) where
      abbrev piece : Piece
      piece = piece_of (get_or elements at default)

      within : at < length pieces
      within = omega (arith, ap length same, length-map elements piece_of)

      is : get_or pieces at piece ≡ piece
      is = ap (λ ps. get_or ps at piece) (sym same) ∙ get_or-map piece_of elements at default piece some

      text_more : fields_text (take (at + 1) pieces) ≡ fields_text (take at pieces) ++ fields_text (piece ∷ [])
      text_more =
          ap fields_text (take_more pieces at piece within ∙ ap (λ p. take at pieces ++ p ∷ []) is) ∙ fields_text-append (take at pieces) (piece ∷ [])

      run_more : run pieces start (at + 1) ≡ run pieces start at ++ piece ∷ []
      run_more =
          ap (drop start) (take_more pieces at piece within ∙ ap (λ p. take at pieces ++ p ∷ []) is)
          ∙ drop-append-le start (take at pieces) (piece ∷ []) (omega (arith, so_far.ordered, length-take-le at pieces (omega (arith, within))))

      pub longer_run : true ≡ is_field_piece piece → IsFieldRun start (at + 1)
      longer_run field = record {
        ordered = omega (arith, so_far.ordered);
        text =
            text_more ∙ ap (λ t. fields_text (take at pieces) ++ t) (fields_text-one piece field) ∙ ap (λ t. t ++ printed_element piece) so_far.text
            ∙ append_assoc (fields_text (take start pieces)) (flat_map printed_element (run pieces start at)) (printed_element piece)
            ∙ ap (λ t. fields_text (take start pieces) ++ t)
            (sym (ap (flat_map printed_element) run_more ∙ flat_map-append printed_element (run pieces start at) (piece ∷ [])
            ∙ ap (λ t. flat_map printed_element (run pieces start at) ++ t) (append-nil (printed_element piece))));
      }

      pub whole_run : false ≡ is_field_piece piece → (part : List Piece) → part ≡ run pieces start at
          → fields_text (take start pieces) ++ flat_map printed_element part ≡ fields_text (take (at + 1) pieces)
      whole_run other part part_is =
          sym (text_more ∙ ap (λ t. fields_text (take at pieces) ++ t) (fields_text-other piece other) ∙ append-nil (fields_text (take at pieces)) ∙ text_to part part_is)
