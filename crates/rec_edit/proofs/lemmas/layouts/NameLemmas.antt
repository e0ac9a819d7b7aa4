-- Records whose listed fields are edited, and which get more fields.
use Rattle.std.proofs.Common.{◌≡◌, ◌∙◌, ℕ, suc, ◌+◌, Bool, true, false, IsTrue, ◌==◌, List, [], ◌∷◌, ◌++◌, Option, Some, None, length, map, filter, take, drop, refl, ap, sym, subst}
use Rattle.std.proofs.Common.{inl, inr, arith}
use Rattle.std.specs.List.{AllByRecursion, list_all, list_any}
use Rattle.std.specs.Option.{option_map, option_map_or}
use Rattle.std.specs.Str.{bytes_eq}
use Rattle.std.proofs.lemmas.Bool.{cases_Bool, false≢true, or_from, and_parts, eqb-true}
use Rattle.std.proofs.lemmas.List.{append-nil, take_at}
use Rattle.rec_text.specs.declared.element.Kind.{Kind}
use Rattle.rec_text.specs.declared.element.Kind.TheVariants.{Blank, Comment, Field}
use Rattle.rec_text.specs.Bytes.{begins_name, continues_name, ends_newline, is_letter}
use Rattle.rec_text.specs.Canonical.{is_plain_name, field_of, folded}
use Rattle.rec_text.specs.Elements.{Piece, IsElement, is_element, name_end, colon_of, name_of, has_name}
use Rattle.rec_text.proofs.lemmas.values.ValueLemmas.{passes_apart}
use Rattle.rec_sex.specs.declared.lists.field_list.Item.{Item}
use Rattle.rec_check.specs.Descriptors.{rec_name}
use Rattle.rec_edit.specs.declared.request.Action.{Action}
use Rattle.rec_edit.specs.declared.request.Action.TheVariants.{Set, Add, SetAdd, Rename, Delete, Comment as CommentFields}
use Rattle.rec_edit.specs.Script.{closed}
use Rattle.rec_edit.specs.Rules.{physical_lines, added, canonical, picked_becomes, picks_none, renamed}
use Rattle.rec_edit.proofs.lemmas.records.ClosedLemmas.{field_colon}
use Rattle.rec_edit.proofs.lemmas.scripts.WellFormedLemmas.{colon_of-name, name_of-closed}
use Rattle.rec_text.proofs.lemmas.elements.FieldLemmas.{colon_of-append}
use Rattle.rec_edit.proofs.lemmas.layouts.NeatLemmas.{IsPlainAction}

-- ---- comments

pub comments_fail : (test : Piece → Bool) → ((line : List ℕ) → test (record { kind = Comment; bytes = 35 ∷ line }) ≡ false) → (lines : List (List ℕ))
    → list_any test (map (λ line. record { kind = Comment; bytes = 35 ∷ line }) lines) ≡ false
comments_fail test fails [] = refl
comments_fail test fails (line ∷ lines) =
    or_from (test (record { kind = Comment; bytes = 35 ∷ line })) (list_any test (map (λ line. record { kind = Comment; bytes = 35 ∷ line }) lines)) (fails line) (comments_fail test fails lines)

-- ---- names that are made

not_rec : (name : List ℕ) → is_plain_name name ≡ true → bytes_eq name rec_name ≡ false
not_rec [] plain = absurd (false≢true plain)
not_rec (b ∷ bs) plain =
    let letter : is_letter b ≡ true = (and_parts (is_letter b) (list_all continues_name bs) plain).0 in
    let other : (b == 37) ≡ false = passes_apart is_letter b 37 letter refl in
    rw other refl

pub named_as : (name rest : List ℕ) → colon_of (name ++ 58 ∷ rest) ≡ Some (length name) → name_of (record { kind = Field; bytes = name ++ 58 ∷ rest }) ≡ name
named_as name rest at = ap (λ o. option_map_or (λ c. take c (name ++ 58 ∷ rest)) o []) at ∙ take_at name (58 ∷ rest) (length name) refl

found_suc : (o : Option ℕ) (c : ℕ) → option_map suc o ≡ Some c → (k : ℕ) × (o ≡ Some k) × (c ≡ suc k)
found_suc None c e = absurd (cc)
found_suc (Some k) c e = (k, refl, cc)

zero_found : (c : ℕ) → ◌≡◌ {A = Option ℕ} (Some 0) (Some c) → c ≡ 0
zero_found c e = cc

-- the bytes up to the colon, and it
record IsCut (find : List ℕ → Option ℕ) (bs : List ℕ) (c : ℕ) : Type 0 where
  pub again : (rest : List ℕ) → find (take c bs ++ 58 ∷ rest) ≡ Some c
  pub colon : drop c bs ≡ 58 ∷ drop (c + 1) bs
  pub size : length (take c bs) ≡ c

name_end_step : (b : ℕ) (bs : List ℕ) (k : ℕ) → (b == 58) ≡ false → continues_name b ≡ true → IsCut name_end bs k → IsCut name_end (b ∷ bs) (suc k)
name_end_step b bs k other goes_on inner =
    let more : suc k + 1 ≡ suc (k + 1) = omega arith in
    record {
      again = λ rest. rw other (rw goes_on (ap (option_map suc) (inner.again rest)));
      colon = inner.colon ∙ ap (λ n. 58 ∷ drop n (b ∷ bs)) (sym more);
      size = ap suc inner.size;
    }

colon_of_step : (b : ℕ) (bs : List ℕ) (k : ℕ) → begins_name b ≡ true → IsCut name_end bs k → IsCut colon_of (b ∷ bs) (suc k)
colon_of_step b bs k begins inner =
    let more : suc k + 1 ≡ suc (k + 1) = omega arith in
    record {
      again = λ rest. rw begins (ap (option_map suc) (inner.again rest));
      colon = inner.colon ∙ ap (λ n. 58 ∷ drop n (b ∷ bs)) (sym more);
      size = ap suc inner.size;
    }

name_end-cut : (bs : List ℕ) (c : ℕ) → name_end bs ≡ Some c → IsCut name_end bs c
name_end-cut [] c e = absurd (cc)
name_end-cut (b ∷ bs) c e = elim (cases_Bool (b == 58)) [
  | inl colon ↦
      let none : c ≡ 0 = zero_found c (rw colon at e) in
      let is : b ≡ 58 = eqb-true b 58 colon in
      subst (IsCut name_end (b ∷ bs)) (sym none) (record { again = λ rest. refl; colon = ap (λ x. x ∷ bs) is; size = refl })
  | inr other ↦ elim (cases_Bool (continues_name b)) [
    | inl goes_on ↦
        let place = found_suc (name_end bs) c (rw goes_on at (rw other at e)) in
        subst (IsCut name_end (b ∷ bs)) (sym place.2) (name_end_step b bs place.0 other goes_on (name_end-cut bs place.0 place.1))
    | inr stops ↦ absurd (let none = rw stops at (rw other at e) in cc)
  ]
]

colon_of-cut : (bs : List ℕ) (c : ℕ) → colon_of bs ≡ Some c → IsCut colon_of bs c
colon_of-cut [] c e = absurd (cc)
colon_of-cut (b ∷ bs) c e = elim (cases_Bool (begins_name b)) [
  | inl begins ↦
      let place = found_suc (name_end bs) c (rw begins at e) in
      subst (IsCut colon_of (b ∷ bs)) (sym place.2) (colon_of_step b bs place.0 begins (name_end-cut bs place.0 place.1))
  | inr other ↦ absurd (let none = rw other at e in cc)
]

named_at : (bytes : List ℕ) (o : Option ℕ) → colon_of bytes ≡ o → name_of (record { kind = Field; bytes = bytes }) ≡ option_map_or (λ c. take c bytes) o []
named_at bytes o at = ap (λ p. option_map_or (λ c. take c bytes) p []) at

canonical_same : (value bytes : List ℕ) (o : Option ℕ) → colon_of bytes ≡ o → name_of (canonical (option_map_or (λ c. take c bytes) o []) value) ≡ option_map_or (λ c. take c bytes) o []
canonical_same value bytes None at = refl
canonical_same value bytes (Some c) at =
    let is = colon_of-cut bytes c at in
    named_at (field_of (take c bytes) value) (Some c) (is.again (32 ∷ (folded value ++ 10 ∷ []))) ∙ take_at (take c bytes) (58 ∷ 32 ∷ (folded value ++ 10 ∷ [])) c is.size

-- the canonical field of an element's name has this name
name_of-canonical : (value : List ℕ) (kind : Kind) (bytes : List ℕ) → name_of (canonical (name_of (record { kind = kind; bytes = bytes })) value) ≡ name_of (record { kind = kind; bytes = bytes })
name_of-canonical value Blank bytes = refl
name_of-canonical value Comment bytes = refl
name_of-canonical value Field bytes = canonical_same value bytes (colon_of bytes) refl

canonical_other : (value : List ℕ) (piece : Piece) → has_name rec_name piece ≡ false → has_name rec_name (canonical (name_of piece) value) ≡ false
canonical_other value piece other = ap (λ name. bytes_eq name rec_name) (name_of-canonical value piece.kind piece.bytes) ∙ other

pub plain_canonical : (name value : List ℕ) → is_plain_name name ≡ true → has_name rec_name (canonical name value) ≡ false
plain_canonical name value plain =
    ap (λ n. bytes_eq n rec_name) (named_as name (32 ∷ (folded value ++ 10 ∷ [])) (colon_of-name name (32 ∷ (folded value ++ 10 ∷ [])) plain)) ∙ not_rec name plain

renamed_field : (name bytes : List ℕ) (c : ℕ) → is_plain_name name ≡ true → colon_of bytes ≡ Some c → has_name rec_name (renamed name (record { kind = Field; bytes = bytes })) ≡ false
renamed_field name bytes c plain at =
    let is = colon_of-cut bytes c at in
    let old : name_of (record { kind = Field; bytes = bytes }) ≡ take c bytes = named_at bytes (Some c) at in
    let parts : name ++ drop (length (name_of (record { kind = Field; bytes = bytes }))) bytes ≡ name ++ 58 ∷ drop (c + 1) bytes =
    ap (λ n. name ++ drop (length n) bytes) old ∙ ap (λ n. name ++ drop n bytes) is.size ∙ ap (λ l. name ++ l) is.colon in
    ap (λ bs. has_name rec_name (record { kind = Field; bytes = bs })) parts
    ∙ ap (λ n. bytes_eq n rec_name) (named_as name (drop (c + 1) bytes) (colon_of-name name (drop (c + 1) bytes) plain)) ∙ not_rec name plain

renamed_more : (name : List ℕ) (kind : Kind) (bytes more : List ℕ) → is_plain_name name ≡ true → IsTrue (is_element kind bytes)
    → has_name rec_name (renamed name (record { kind = kind; bytes = bytes ++ more })) ≡ false
renamed_more name Blank bytes more plain is = refl
renamed_more name Comment bytes more plain is = refl
renamed_more name Field bytes more plain is =
    let colon = field_colon bytes is in
    renamed_field name (bytes ++ more) colon.0 plain (colon_of-append bytes more colon.0 colon.1)

renamed_other : (name : List ℕ) (piece : Piece) → is_plain_name name ≡ true → IsElement piece → has_name rec_name (renamed name (closed piece)) ≡ false
renamed_other name piece plain is = elim (cases_Bool (ends_newline piece.bytes)) [
  | inl ends ↦ rw ends (ap (λ bs. has_name rec_name (renamed name (record { kind = piece.kind; bytes = bs }))) (sym (append-nil piece.bytes)) ∙ renamed_more name piece.kind piece.bytes [] plain is)
  | inr is_left_open ↦ rw is_left_open (renamed_more name piece.kind piece.bytes (10 ∷ []) plain is)
]

pub alone_fails : (test : Piece → Bool) (piece : Piece) → test piece ≡ false → list_any test (piece ∷ []) ≡ false
alone_fails test piece fails = or_from (test piece) false fails refl

pub picked_other : (action : Action) (piece : Piece) → IsPlainAction action → IsElement piece → has_name rec_name piece ≡ false
    → list_any (has_name rec_name) (picked_becomes action (closed piece)) ≡ false
picked_other action piece plain whole named =
    let other : has_name rec_name (closed piece) ≡ false = ap (λ name. bytes_eq name rec_name) (name_of-closed piece whole) ∙ named in
    elim action as (λ a. IsPlainAction a → list_any (has_name rec_name) (picked_becomes a (closed piece)) ≡ false) [
      | Set value ↦ λ _. alone_fails (has_name rec_name) (canonical (name_of (closed piece)) value) (canonical_other value (closed piece) other)
      | Add value ↦ λ _. alone_fails (has_name rec_name) (closed piece) other
      | SetAdd value ↦ λ _. alone_fails (has_name rec_name) (canonical (name_of (closed piece)) value) (canonical_other value (closed piece) other)
      | Rename name ↦ λ given. alone_fails (has_name rec_name) (renamed name (closed piece)) (renamed_other name piece given whole)
      | Delete ↦ λ _. refl
      | CommentFields ↦ λ _. comments_fail (has_name rec_name) (λ line. refl) (physical_lines (closed piece).bytes)
    ] plain

-- ---- what is added

abbrev pub ArePlainItems : List Item → Type 0
ArePlainItems items = AllByRecursion (λ item. is_plain_name item.name ≡ true) items

canonicals_fail : (test : Piece → Bool) (value : List ℕ) (items : List Item) → ArePlainItems items → ((name : List ℕ) → is_plain_name name ≡ true → test (canonical name value) ≡ false)
    → list_any test (map (λ item. canonical item.name value) items) ≡ false
canonicals_fail test value [] plain fails = refl
canonicals_fail test value (item ∷ items) plain fails =
    or_from (test (canonical item.name value)) (list_any test (map (λ item. canonical item.name value) items)) (fails item.name plain.0) (canonicals_fail test value items plain.1 fails)

filter_plain : (keep : Item → Bool) (items : List Item) → ArePlainItems items → ArePlainItems (filter keep items)
filter_plain keep [] plain = tt
filter_plain keep (item ∷ items) plain = elim (cases_Bool (keep item)) [
  | inl kept ↦ rw kept (plain.0, filter_plain keep items plain.1)
  | inr gone ↦ rw gone (filter_plain keep items plain.1)
]

pub added_fails : (test : Piece → Bool) (action : Action) (items : List Item) (own : List Piece) → ArePlainItems items
    → ((name value : List ℕ) → is_plain_name name ≡ true → test (canonical name value) ≡ false)
    → list_any test (added action items own) ≡ false
added_fails test (Set value) items own plain fails = refl
added_fails test (Add value) items own plain fails = canonicals_fail test value items plain (λ name p. fails name value p)
added_fails test (SetAdd value) items own plain fails = canonicals_fail test value (filter (picks_none own) items) (filter_plain (picks_none own) items plain) (λ name p. fails name value p)
added_fails test (Rename name) items own plain fails = refl
added_fails test Delete items own plain fails = refl
added_fails test CommentFields items own plain fails = refl
