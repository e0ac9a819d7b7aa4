-- A field has the same name and the same value with and without the newline at its end.
use Rattle.std.proofs.Common.{◌≡◌, ◌∙◌, ℕ, ◌+◌, ◌<◌, Bool, true, false, IsTrue, ◌==◌, ◌||◌, List, [], ◌∷◌, ◌++◌, Option, Some, None, length, map, drop, refl, ap, ap₂, sym, inl, inr, arith}
use Rattle.std.proofs.Common.{◌&&◌, not, subst}
use Rattle.std.specs.Prelude.{if◌then◌else◌}
use Rattle.std.specs.List.{AllByRecursion, list_any, join_with_byte}
use Rattle.std.specs.Option.{option_map_or}
use Rattle.std.specs.Str.{bytes_eq}
use Rattle.std.proofs.lemmas.Bool.{cases_Bool, false≢true, and_parts, and_from, or_parts, not-true, not_from_false}
use Rattle.std.proofs.lemmas.List.{drop-append-le}
use Rattle.rec_text.specs.declared.element.Kind.{Kind}
use Rattle.rec_text.specs.declared.element.Kind.TheVariants.{Blank, Comment, Field}
use Rattle.rec_text.specs.Bytes.{ends_newline, is_blank, is_nil}
use Rattle.rec_text.specs.Elements.{Piece, IsElement, colon_of, is_element, is_body, name_of, has_name, is_dangling, is_joined}
use Rattle.rec_sex.specs.declared.lists.field_list.Item.{Item}
use Rattle.rec_sex.specs.Lists.{places_from, occurrences, picks}
use Rattle.rec_check.specs.Descriptors.{rec_name}
use Rattle.rec_edit.specs.Script.{closed}
use Rattle.rec_text.specs.Values.{body_value, lines_value, logical_lines, on_first, plus_value, unfolded, value_of, without_first}
use Rattle.rec_text.proofs.lemmas.elements.FieldLemmas.{colon_of-append}
use Rattle.rec_text.proofs.lemmas.elements.NameLemmas.{colon_is_within}
use Rattle.rec_edit.proofs.lemmas.scripts.WellFormedLemmas.{ends_newline-drop, ends_newline-rest, name_of-closed}

-- ---- a field has the same name with and without the newline at its end, and a list of fields picks the same

colon_there : (test : ℕ → Bool) (o : Option ℕ) → option_map_or test o false ≡ true → (c : ℕ) × (o ≡ Some c)
colon_there test None e = absurd (false≢true e)
colon_there test (Some c) e = (c, refl)

-- a field has a colon
pub field_colon : (bytes : List ℕ) → IsTrue (is_element Field bytes) → (c : ℕ) × (colon_of bytes ≡ Some c)
field_colon bytes is = colon_there (λ c. is_body (drop (c + 1) bytes)) (colon_of bytes) is

-- ---- names of several elements

pub named-closed : (pieces : List Piece) → AllByRecursion IsElement pieces → list_any (has_name rec_name) (map closed pieces) ≡ list_any (has_name rec_name) pieces
named-closed [] all = refl
named-closed (piece ∷ pieces) all =
    ap₂ (λ a b. a || b) (ap (λ name. bytes_eq name rec_name) (name_of-closed piece all.0)) (named-closed pieces all.1)

places_from-closed : (i : ℕ) (name : List ℕ) (pieces : List Piece) → AllByRecursion IsElement pieces → places_from i name (map closed pieces) ≡ places_from i name pieces
places_from-closed i name [] all = refl
places_from-closed i name (piece ∷ pieces) all =
    let more = places_from-closed (i + 1) name pieces all.1 in
    ap (λ n. if bytes_eq n name then i ∷ places_from (i + 1) name (map closed pieces) else places_from (i + 1) name (map closed pieces)) (name_of-closed piece all.0)
    ∙ ap (λ ps. if bytes_eq (name_of piece) name then i ∷ ps else ps) more

pub picks-closed : (items : List Item) (pieces : List Piece) → AllByRecursion IsElement pieces → picks items (map closed pieces) ≡ picks items pieces
picks-closed [] pieces all = refl
picks-closed (item ∷ items) pieces all =
    ap₂ (λ a b. a ++ b) (ap (occurrences item.occurrences) (places_from-closed 0 item.name pieces all)) (picks-closed items pieces all)

-- ---- a field has the same value with and without the newline at its end

-- ---- the last logical line gets a newline

abbrev closing : List (List ℕ) → List (List ℕ)
closing [] = (10 ∷ []) ∷ []
closing (line ∷ []) = (line ++ 10 ∷ []) ∷ []
closing (line ∷ next ∷ lines) = line ∷ closing (next ∷ lines)

on_first-closing : (b : ℕ) (lines : List (List ℕ)) → on_first b (closing lines) ≡ closing (on_first b lines)
on_first-closing b [] = refl
on_first-closing b (line ∷ []) = refl
on_first-closing b (line ∷ next ∷ lines) = refl

-- a line is there
abbrev SomeLine : List (List ℕ) → Type 0
SomeLine [] = ⊥
SomeLine (line ∷ lines) = Unit {0}

some_on_first : (b : ℕ) (lines : List (List ℕ)) → SomeLine (on_first b lines)
some_on_first b [] = tt
some_on_first b (line ∷ lines) = tt

some_if : (t : Bool) (some other : List (List ℕ)) → SomeLine some → SomeLine other → SomeLine (if t then some else other)
some_if true some other first second = first
some_if false some other first second = second

some_line : (before b : ℕ) (bs : List ℕ) → SomeLine (logical_lines before (b ∷ bs))
some_line before b bs = some_if (b == 10 && not (before == 92)) ((b ∷ []) ∷ logical_lines b bs) (on_first b (logical_lines b bs)) tt (some_on_first b (logical_lines b bs))

closing-cons : (line : List ℕ) (lines : List (List ℕ)) → SomeLine lines → closing (line ∷ lines) ≡ line ∷ closing lines
closing-cons line [] some = absurd some
closing-cons line (next ∷ lines) some = refl

-- a newline ends a line, where more stands after it
more_after : (before b : ℕ) (bs : List ℕ) → (b == 10 && not (before == 92)) ≡ true → ends_newline (b ∷ bs) ≡ false → SomeLine (logical_lines b bs)
more_after before b [] cut shut = absurd (false≢true (sym shut ∙ (and_parts (b == 10) (not (before == 92)) cut).0))
more_after before b (c ∷ bs) cut shut = some_line b c bs

logical_lines-closing : (before : ℕ) (bs : List ℕ) → ends_newline bs ≡ false → is_dangling before bs ≡ false → logical_lines before (bs ++ 10 ∷ []) ≡ closing (logical_lines before bs)
logical_lines-closing before [] shut whole = let apart : (before == 92) ≡ false = whole in rw apart refl
logical_lines-closing before (b ∷ bs) shut whole =
    let rest : logical_lines b (bs ++ 10 ∷ []) ≡ closing (logical_lines b bs) =
    logical_lines-closing b bs (ends_newline-rest b bs shut) (or_parts (before == 92 && b == 10 && is_nil bs) (is_dangling b bs) whole).1 in
    elim (cases_Bool (b == 10 && not (before == 92))) [
      | inl cut ↦
          ap (λ t. if t then (b ∷ []) ∷ logical_lines b (bs ++ 10 ∷ []) else on_first b (logical_lines b (bs ++ 10 ∷ []))) cut
          ∙ ap (λ l. (b ∷ []) ∷ l) rest ∙ sym (closing-cons (b ∷ []) (logical_lines b bs) (more_after before b bs cut shut))
          ∙ sym (ap (λ t. closing (if t then (b ∷ []) ∷ logical_lines b bs else on_first b (logical_lines b bs))) cut)
      | inr on ↦
          ap (λ t. if t then (b ∷ []) ∷ logical_lines b (bs ++ 10 ∷ []) else on_first b (logical_lines b (bs ++ 10 ∷ []))) on
          ∙ ap (on_first b) rest ∙ on_first-closing b (logical_lines b bs)
          ∙ sym (ap (λ t. closing (if t then (b ∷ []) ∷ logical_lines b bs else on_first b (logical_lines b bs))) on)
    ]

-- ---- the last line ends in no newline and no backslash

abbrev is_shut : List ℕ → Bool
is_shut [] = true
is_shut (b ∷ []) = not (b == 10) && not (b == 92)
is_shut (b ∷ c ∷ bs) = is_shut (c ∷ bs)

shut_tail : (b : ℕ) (bs : List ℕ) → is_shut (b ∷ bs) ≡ true → is_shut bs ≡ true
shut_tail b [] shut = refl
shut_tail b (c ∷ bs) shut = shut

-- the last line is there, isn't empty and is shut
abbrev EndShut : List (List ℕ) → Type 0
EndShut [] = Unit {0}
EndShut (line ∷ []) = (0 < length line) × (is_shut line ≡ true)
EndShut (line ∷ next ∷ lines) = EndShut (next ∷ lines)

end_shut-cons : (line : List ℕ) (lines : List (List ℕ)) → SomeLine lines → EndShut lines → EndShut (line ∷ lines)
end_shut-cons line [] some ends = absurd some
end_shut-cons line (next ∷ lines) some ends = ends

shut_on : (b : ℕ) (line : List ℕ) → 0 < length line → is_shut line ≡ true → is_shut (b ∷ line) ≡ true
shut_on b [] some shut = absurd (omega (arith, some))
shut_on b (c ∷ line) some shut = shut

end_shut-on_first : (b : ℕ) (lines : List (List ℕ)) → SomeLine lines → EndShut lines → EndShut (on_first b lines)
end_shut-on_first b [] some ends = absurd some
end_shut-on_first b (line ∷ []) some ends = (omega arith, shut_on b line ends.0 ends.1)
end_shut-on_first b (line ∷ next ∷ lines) some ends = ends

on_first-shut : (b : ℕ) (bs : List ℕ) → ends_newline (b ∷ bs) ≡ false → is_dangling b bs ≡ false → EndShut (logical_lines b bs) → EndShut (on_first b (logical_lines b bs))
on_first-shut b [] shut whole ends =
    (omega arith, and_from (not (b == 10)) (not (b == 92)) (not_from_false (b == 10) shut) (not_from_false (b == 92) whole))
on_first-shut b (c ∷ bs) shut whole ends = end_shut-on_first b (logical_lines b (c ∷ bs)) (some_line b c bs) ends

logical_lines-shut : (before : ℕ) (bs : List ℕ) → ends_newline bs ≡ false → is_dangling before bs ≡ false → EndShut (logical_lines before bs)
logical_lines-shut before [] shut whole = tt
logical_lines-shut before (b ∷ bs) shut whole =
    let inner : is_dangling b bs ≡ false = (or_parts (before == 92 && b == 10 && is_nil bs) (is_dangling b bs) whole).1 in
    let rest : EndShut (logical_lines b bs) = logical_lines-shut b bs (ends_newline-rest b bs shut) inner in
    elim (cases_Bool (b == 10 && not (before == 92))) [
      | inl cut ↦ subst (λ t. EndShut (if t then (b ∷ []) ∷ logical_lines b bs else on_first b (logical_lines b bs))) (sym cut)
          (end_shut-cons (b ∷ []) (logical_lines b bs) (more_after before b bs cut shut) rest)
      | inr on ↦ subst (λ t. EndShut (if t then (b ∷ []) ∷ logical_lines b bs else on_first b (logical_lines b bs))) (sym on) (on_first-shut b bs shut inner rest)
    ]

-- ---- the newline at its end says nothing

unfolded_one : (b : ℕ) (newline backslash : Bool) → (b == 10) ≡ newline → (b == 92) ≡ backslash → not newline && not backslash ≡ true → unfolded (b ∷ 10 ∷ []) ≡ unfolded (b ∷ [])
unfolded_one b true backslash e f shut = absurd (false≢true shut)
unfolded_one b false true e f shut = absurd (false≢true shut)
unfolded_one b false false e f shut = rw e (rw f refl)

unfolded-newline : (line : List ℕ) → is_shut line ≡ true → unfolded (line ++ 10 ∷ []) ≡ unfolded line
unfolded-newline [] shut = refl
unfolded-newline (b ∷ []) shut = unfolded_one b (b == 10) (b == 92) refl refl shut
unfolded-newline (b ∷ c ∷ line) shut =
    ap₂ (λ x y. if b == 92 && c == 10 then x else b ∷ y) (unfolded-newline line (shut_tail c line shut)) (unfolded-newline (c ∷ line) shut)

without-newline : (test : ℕ → Bool) (line : List ℕ) → test 10 ≡ false → without_first test (line ++ 10 ∷ []) ≡ without_first test line ++ 10 ∷ []
without-newline test [] other = rw other refl
without-newline test (b ∷ line) other = elim (cases_Bool (test b)) [
  | inl passes ↦ rw passes refl
  | inr fails ↦ rw fails refl
]

without-shut : (test : ℕ → Bool) (line : List ℕ) → is_shut line ≡ true → is_shut (without_first test line) ≡ true
without-shut test [] shut = refl
without-shut test (b ∷ line) shut = elim (cases_Bool (test b)) [
  | inl passes ↦ rw passes (shut_tail b line shut)
  | inr fails ↦ rw fails shut
]

first_same : (line : List ℕ) → is_shut line ≡ true → unfolded (without_first is_blank (line ++ 10 ∷ [])) ≡ unfolded (without_first is_blank line)
first_same line shut = ap unfolded (without-newline is_blank line refl) ∙ unfolded-newline (without_first is_blank line) (without-shut is_blank line shut)

plus_same : (line : List ℕ) → is_shut line ≡ true → plus_value (line ++ 10 ∷ []) ≡ plus_value line
plus_same line shut =
    let mark : List ℕ = without_first (λ b. b == 43) line in
    ap (λ l. unfolded (without_first (λ b. b == 32) l)) (without-newline (λ b. b == 43) line refl)
    ∙ ap unfolded (without-newline (λ b. b == 32) mark refl)
    ∙ unfolded-newline (without_first (λ b. b == 32) mark) (without-shut (λ b. b == 32) mark (without-shut (λ b. b == 43) line shut))

plus_lines : (line : List ℕ) (lines : List (List ℕ)) → EndShut (line ∷ lines) → map plus_value (closing (line ∷ lines)) ≡ map plus_value (line ∷ lines)
plus_lines line [] ends = ap (λ v. v ∷ []) (plus_same line ends.1)
plus_lines line (next ∷ lines) ends = ap (λ l. plus_value line ∷ l) (plus_lines next lines ends)

joined_same : (lines : List (List ℕ)) → EndShut lines → join_with_byte 10 (lines_value (closing lines)) ≡ join_with_byte 10 (lines_value lines)
joined_same [] ends = refl
joined_same (line ∷ []) ends = first_same line ends.1
joined_same (line ∷ next ∷ lines) ends = ap (λ l. join_with_byte 10 (unfolded (without_first is_blank line) ∷ l)) (plus_lines next lines ends)

body_same : (body : List ℕ) → ends_newline body ≡ false → is_dangling 58 body ≡ false → body_value (body ++ 10 ∷ []) ≡ body_value body
body_same body shut whole =
    ap (λ l. join_with_byte 10 (lines_value l)) (logical_lines-closing 58 body shut whole) ∙ joined_same (logical_lines 58 body) (logical_lines-shut 58 body shut whole)

valued_at : (bytes : List ℕ) (c : ℕ) → colon_of bytes ≡ Some c → value_of (record { kind = Field; bytes = bytes }) ≡ body_value (drop (c + 1) bytes)
valued_at bytes c at = ap (λ o. option_map_or (λ c. body_value (drop (c + 1) bytes)) o []) at

value_of-newline : (kind : Kind) (bytes : List ℕ) → IsTrue (is_element kind bytes) → ends_newline bytes ≡ false
    → value_of (record { kind = kind; bytes = bytes ++ 10 ∷ [] }) ≡ value_of (record { kind = kind; bytes = bytes })
value_of-newline Blank bytes is shut = refl
value_of-newline Comment bytes is shut = refl
value_of-newline Field bytes is shut =
    let colon = field_colon bytes is in
    let c : ℕ = colon.0 in
    let within : c < length bytes = colon_is_within bytes c colon.1 in
    let body : is_body (drop (c + 1) bytes) ≡ true = sym (ap (λ o. option_map_or (λ c. is_body (drop (c + 1) bytes)) o false) colon.1) ∙ is in
    let whole : is_dangling 58 (drop (c + 1) bytes) ≡ false =
    not-true (is_dangling 58 (drop (c + 1) bytes)) (and_parts (is_joined 58 (drop (c + 1) bytes)) (not (is_dangling 58 (drop (c + 1) bytes))) body).1 in
    valued_at (bytes ++ 10 ∷ []) c (colon_of-append bytes (10 ∷ []) c colon.1)
    ∙ ap body_value (drop-append-le (c + 1) bytes (10 ∷ []) (omega arith))
    ∙ body_same (drop (c + 1) bytes) (ends_newline-drop (c + 1) bytes shut) whole
    ∙ sym (valued_at bytes c colon.1)

pub value_of-closed : (piece : Piece) → IsElement piece → value_of (closed piece) ≡ value_of piece
value_of-closed piece is = elim (cases_Bool (ends_newline piece.bytes)) [
  | inl ends ↦ rw ends refl
  | inr other ↦ rw other (value_of-newline piece.kind piece.bytes is other)
]
