-- The edits of records and fields make well-formed elements that end in newlines.
use Rattle.std.proofs.Common.{◌≡◌, ◌∙◌, ℕ, suc, ◌+◌, ◌<◌, Bool, true, ◌==◌, List, [], ◌∷◌, ◌++◌, map, take, drop, Option, Some, None, refl, sym, ap, subst, inl, inr, arith, filter}
use Rattle.std.proofs.Common.{false, IsTrue, length}
use Rattle.std.specs.List.{AllByRecursion, list_all, list_any, slice_get}
use Rattle.std.specs.Prelude.{flat_map}
use Rattle.std.specs.Str.{bytes_eq}
use Rattle.std.proofs.lemmas.Bool.{cond_both, and_parts, or_cases, eqb-true, false≢true, cases_Bool}
use Rattle.std.proofs.lemmas.List.{take-append-drop, append_assoc, append-nil, drop-append-le, length-append, length-take}
use Rattle.std.specs.Option.{option_map_or}
use Rattle.rec_text.specs.declared.element.Kind.{Kind}
use Rattle.rec_text.specs.declared.element.Kind.TheVariants.{Blank, Comment, Field}
use Rattle.rec_text.specs.Canonical.{is_plain_name, is_foldable, folded}
use Rattle.rec_text.specs.Elements.{Piece, IsElement, name_of, colon_of}
use Rattle.rec_sex.specs.declared.lists.field_list.Item.{Item}
use Rattle.rec_sex.specs.declared.lists.index_list.Span.{Span}
use Rattle.rec_sex.specs.Lists.{places_from, occurrences, picks}
use Rattle.rec_edit.specs.declared.request.Action.{Action}
use Rattle.rec_edit.specs.declared.request.Action.TheVariants.{Set, Add, SetAdd, Rename, Delete, Comment as CommentFields}
use Rattle.rec_edit.specs.Script.{closed}
use Rattle.rec_edit.specs.Rules.{canonical, comments_of, renamed, picked_becomes, picks_none, added, physical_lines}
use Rattle.rec_edit.specs.Wording.{names_of_action, values_of_action}
use Rattle.rec_text.specs.Bytes.{continues_name, ends_newline, is_letter}
use Rattle.rec_text.specs.Values.{on_first}
use Rattle.rec_text.proofs.lemmas.ListLemmas.{AllByRecursion-weaker, AllByRecursion-prefix, AllByRecursion-following, same_bytes, AllByRecursion-append}
use Rattle.rec_edit.proofs.lemmas.scripts.WellFormedLemmas.{IsClosed, IsClosed-closed, bare-closed, commented_are_closed, commented_are_bare, canonical_is_closed, canonical_is_bare}
use Rattle.rec_edit.proofs.lemmas.scripts.WellFormedLemmas.{ends_newline-at, ends_newline-drop}
use Rattle.rec_edit.proofs.lemmas.scripts.WellFormedLemmas.{renamed_is_closed, renamed_is_bare, name_of-closed, kind-closed, AllByRecursion-map, CanStandFor}
use Rattle.rec_text.proofs.lemmas.elements.NameLemmas.{IsBelow, colon_of_is_below}
use Rattle.rec_text.proofs.lemmas.values.ValueLemmas.{passes_apart}
use Rattle.rec_edit.proofs.lemmas.scripts.LaidLemmas.{Ends, Neat, closed-neat, ends_newline-push}

-- ---- the fields that an edit picks have plain names, and what stands in their place is well formed

-- ---- lists

pub AllByRecursion-flat_map : {X Y : Type 0} (P : X → Type 0) (Q : Y → Type 0) (f : X → List Y) → ((x : X) → P x → AllByRecursion Q (f x)) → (xs : List X) → AllByRecursion P xs
    → AllByRecursion Q (flat_map f xs)
AllByRecursion-flat_map P Q f each [] all = tt
AllByRecursion-flat_map P Q f each (x ∷ xs) all = AllByRecursion-append Q (f x) (flat_map f xs) (each x all.0) (AllByRecursion-flat_map P Q f each xs all.1)

pub AllByRecursion-filter : {X : Type 0} (P : X → Type 0) (test : X → Bool) (xs : List X) → AllByRecursion P xs → AllByRecursion P (filter test xs)
AllByRecursion-filter P test [] all = tt
AllByRecursion-filter P test (x ∷ xs) all =
    let more = AllByRecursion-filter P test xs all.1 in
    cond_both (test x) (x ∷ filter test xs) (filter test xs) (AllByRecursion P) (λ _. (all.0, more)) (λ _. more)

AllByRecursion-take : {X : Type 0} (P : X → Type 0) (n : ℕ) (xs : List X) → AllByRecursion P xs → AllByRecursion P (take n xs)
AllByRecursion-take P n xs all = AllByRecursion-prefix P (take n xs) (drop n xs) (subst (AllByRecursion P) (sym (take-append-drop n xs)) all)

pub AllByRecursion-drop : {X : Type 0} (P : X → Type 0) (n : ℕ) (xs : List X) → AllByRecursion P xs → AllByRecursion P (drop n xs)
AllByRecursion-drop P n xs all = AllByRecursion-following P (take n xs) (drop n xs) (subst (AllByRecursion P) (sym (take-append-drop n xs)) all)

-- one that passes the test, and of which holds what holds of each
pub found : {X : Type 0} (P : X → Type 0) (test : X → Bool) (xs : List X) → AllByRecursion P xs → list_any test xs ≡ true → (x : X) × P x × (test x ≡ true)
found P test [] all any = absurd (false≢true any)
found P test (x ∷ xs) all any = elim (or_cases (test x) (list_any test xs) any) [
  | inl here ↦ (x, all.0, here)
  | inr later ↦ found P test xs all.1 later
]

-- ---- what a list picks has one of its names

-- the element of this place, where the first has the place i, has this name
abbrev HasNameFrom : ℕ → List ℕ → List Piece → ℕ → Type 0
HasNameFrom i name own place = (k : ℕ) × (place ≡ i + k) × ((piece : Piece) → slice_get own k ≡ Some piece → name_of piece ≡ name)

HasNameFrom-later : (i : ℕ) (name : List ℕ) (field : Piece) (own : List Piece) (place : ℕ) → HasNameFrom (i + 1) name own place → HasNameFrom i name (field ∷ own) place
HasNameFrom-later i name field own place (k, at, named) = (suc k, omega (arith, at), λ piece is. named piece is)

HasNameFrom-first : (i : ℕ) (name : List ℕ) (field : Piece) (own : List Piece) → bytes_eq (name_of field) name ≡ true → HasNameFrom i name (field ∷ own) i
HasNameFrom-first i name field own named = (0, omega arith, λ piece is. let same : field ≡ piece = cc in ap name_of (sym same) ∙ same_bytes (name_of field) name named)

places_are_named : (i : ℕ) (name : List ℕ) (own : List Piece) → AllByRecursion (HasNameFrom i name own) (places_from i name own)
places_are_named i name [] = tt
places_are_named i name (field ∷ own) =
    let more = AllByRecursion-weaker (HasNameFrom (i + 1) name own) (HasNameFrom i name (field ∷ own)) (HasNameFrom-later i name field own) (places_from (i + 1) name own)
    (places_are_named (i + 1) name own) in
    cond_both (bytes_eq (name_of field) name) (i ∷ places_from (i + 1) name own) (places_from (i + 1) name own) (AllByRecursion (HasNameFrom i name (field ∷ own)))
    (λ named. (HasNameFrom-first i name field own named, more)) (λ _. more)

AllByRecursion-occurrences : (P : ℕ → Type 0) (span : Option Span) (places : List ℕ) → AllByRecursion P places → AllByRecursion P (occurrences span places)
AllByRecursion-occurrences P None places all = all
AllByRecursion-occurrences P (Some span) places all = AllByRecursion-drop P span.first (take (span.last + 1) places) (AllByRecursion-take P (span.last + 1) places all)

-- the item has a plain name, and so has the element of this place
abbrev pub HasPlainName : Item → Type 0
HasPlainName item = is_plain_name item.name ≡ true

abbrev pub IsPlainAt : List Piece → ℕ → Type 0
IsPlainAt own place = (piece : Piece) → slice_get own place ≡ Some piece → is_plain_name (name_of piece) ≡ true

IsPlainAt-named : (own : List Piece) (item : Item) → HasPlainName item → (place : ℕ) → HasNameFrom 0 item.name own place → IsPlainAt own place
IsPlainAt-named own item plain place (k, at, named) piece is =
    let same : place ≡ k = omega (arith, at) in
    ap is_plain_name (named piece (ap (slice_get own) (sym same) ∙ is)) ∙ plain

pub picks_are_plain : (items : List Item) (own : List Piece) → AllByRecursion HasPlainName items → AllByRecursion (IsPlainAt own) (picks items own)
picks_are_plain items own plain =
    AllByRecursion-flat_map HasPlainName (IsPlainAt own) (λ item. occurrences item.occurrences (places_from 0 item.name own))
    (λ item named. AllByRecursion-occurrences (IsPlainAt own) item.occurrences (places_from 0 item.name own)
    (AllByRecursion-weaker (HasNameFrom 0 item.name own) (IsPlainAt own) (IsPlainAt-named own item named) (places_from 0 item.name own) (places_are_named 0 item.name own)))
    items plain

-- ---- what stands instead of an element

-- an element with a plain name is a field
named_is_field : (kind : Kind) (bytes : List ℕ) → is_plain_name (name_of (record { kind = kind; bytes = bytes })) ≡ true → kind ≡ Field
named_is_field Blank bytes plain = absurd (false≢true plain)
named_is_field Comment bytes plain = absurd (false≢true plain)
named_is_field Field bytes plain = refl

pub CanStandFor-none : (piece : Piece) → CanStandFor piece []
CanStandFor-none piece = record { lines = tt; bares = λ _. tt }

module _ (piece : Piece) (whole : IsElement piece) where
  pub CanStandFor-kept : CanStandFor piece (closed piece ∷ [])
  CanStandFor-kept = record {
    lines = (IsClosed-closed piece whole, tt);
    bares = λ lacks. (subst IsElement (sym (bare-closed piece lacks)) whole, tt);
  }

  pub CanStandFor-commented : CanStandFor piece (comments_of (closed piece).bytes)
  CanStandFor-commented =
      let ends = (IsClosed-closed piece whole).ends in
      record { lines = commented_are_closed (closed piece) ends; bares = λ _. commented_are_bare (closed piece) ends }

  CanStandFor-canonical : (value : List ℕ) → is_plain_name (name_of piece) ≡ true → is_foldable 32 value ≡ true → CanStandFor piece (canonical (name_of (closed piece)) value ∷ [])
  CanStandFor-canonical value plain foldable =
      let name = name_of (closed piece) in
      let named : is_plain_name name ≡ true = ap is_plain_name (name_of-closed piece whole) ∙ plain in
      record { lines = (canonical_is_closed name value named foldable, tt); bares = λ _. (canonical_is_bare name value named foldable, tt) }

  CanStandFor-renamed : (fresh : List ℕ) → piece.kind ≡ Field → is_plain_name fresh ≡ true → CanStandFor piece (renamed fresh (closed piece) ∷ [])
  CanStandFor-renamed fresh field plain =
      let is = IsClosed-closed piece whole in
      record {
        lines = (renamed_is_closed fresh plain (closed piece) is.element (kind-closed piece ∙ field) is.ends, tt);
        bares = λ lacks. (renamed_is_bare fresh plain piece whole field lacks, tt);
      }

  pub picked_can_stand : (action : Action) → is_plain_name (name_of piece) ≡ true → list_all is_plain_name (names_of_action action) ≡ true
      → list_all (is_foldable 32) (values_of_action action) ≡ true → CanStandFor piece (picked_becomes action (closed piece))
  picked_can_stand (Set value) plain names values = CanStandFor-canonical value plain (and_parts (is_foldable 32 value) true values).0
  picked_can_stand (Add value) plain names values = CanStandFor-kept
  picked_can_stand (SetAdd value) plain names values = CanStandFor-canonical value plain (and_parts (is_foldable 32 value) true values).0
  picked_can_stand (Rename fresh) plain names values = CanStandFor-renamed fresh (named_is_field piece.kind piece.bytes plain) (and_parts (is_plain_name fresh) true names).0
  picked_can_stand Delete plain names values = CanStandFor-none piece
  picked_can_stand CommentFields plain names values = CanStandFor-commented

-- ---- what is added

canonicals_are_closed : (value : List ℕ) (items : List Item) → is_foldable 32 value ≡ true → AllByRecursion HasPlainName items → AllByRecursion IsClosed (map (λ item. canonical item.name value) items)
canonicals_are_closed value items foldable plain =
    AllByRecursion-map HasPlainName IsClosed (λ item. canonical item.name value) (λ item named. canonical_is_closed item.name value named foldable) items plain

pub added_are_closed : (action : Action) (items : List Item) (own : List Piece) → AllByRecursion HasPlainName items → list_all (is_foldable 32) (values_of_action action) ≡ true
    → AllByRecursion IsClosed (added action items own)
added_are_closed (Set value) items own plain values = tt
added_are_closed (Add value) items own plain values = canonicals_are_closed value items (and_parts (is_foldable 32 value) true values).0 plain
added_are_closed (SetAdd value) items own plain values =
    canonicals_are_closed value (filter (picks_none own) items) (and_parts (is_foldable 32 value) true values).0 (AllByRecursion-filter HasPlainName (picks_none own) items plain)
added_are_closed (Rename fresh) items own plain values = tt
added_are_closed Delete items own plain values = tt
added_are_closed CommentFields items own plain values = tt

-- ---- bytes that end in one newline

-- a byte that is none, before bytes that don't end in one
open_after : (b : ℕ) (bs : List ℕ) → (b == 10) ≡ false → ends_newline bs ≡ false → ends_newline (b ∷ bs) ≡ false
open_after b [] other shut = other
open_after b (c ∷ bs) other shut = shut

open_append : (xs ys : List ℕ) → ends_newline xs ≡ false → ends_newline ys ≡ false → ends_newline (xs ++ ys) ≡ false
open_append xs [] first second = ap ends_newline (append-nil xs) ∙ first
open_append xs (y ∷ ys) first second = ends_newline-at xs y ys ∙ second

prefix_of : (bs : List ℕ) → ends_newline bs ≡ true → (prefix : List ℕ) × (bs ≡ prefix ++ 10 ∷ [])
prefix_of [] ends = absurd (false≢true ends)
prefix_of (b ∷ []) ends = ([], ap (λ c. c ∷ []) (eqb-true b 10 ends))
prefix_of (b ∷ c ∷ bs) ends = let rest = prefix_of (c ∷ bs) ends in (b ∷ rest.0, ap (λ l. b ∷ l) rest.1)

-- ---- lines of comments

-- one newline at the end of a line, whatever stands before it
abbrev IsNeatLine : List ℕ → Type 0
IsNeatLine line = (prefix : List ℕ) × (line ≡ prefix ++ 10 ∷ []) × (ends_newline prefix ≡ false)

-- some lines, all of them neat
abbrev AreNeatLines : List (List ℕ) → Type 0
AreNeatLines [] = ⊥
AreNeatLines (line ∷ lines) = IsNeatLine line × AllByRecursion IsNeatLine lines

on_first-neat : (b : ℕ) (lines : List (List ℕ)) → (b == 10) ≡ false → AreNeatLines lines → AreNeatLines (on_first b lines)
on_first-neat b [] other neat = absurd neat
on_first-neat b (line ∷ lines) other ((prefix, is, shut), more) = ((b ∷ prefix, ap (λ l. b ∷ l) is, open_after b prefix other shut), more)

all_neat : (lines : List (List ℕ)) → AreNeatLines lines → AllByRecursion IsNeatLine lines
all_neat [] neat = tt
all_neat (line ∷ lines) neat = neat

lines_neat : (bs : List ℕ) → ends_newline bs ≡ true → AreNeatLines (physical_lines bs)
lines_neat [] ends = absurd (false≢true ends)
lines_neat (b ∷ []) ends = rw ends (([], ap (λ c. c ∷ []) (eqb-true b 10 ends), refl), tt)
lines_neat (b ∷ c ∷ bs) ends =
    let more = lines_neat (c ∷ bs) ends in
    elim (cases_Bool (b == 10)) [
      | inl newline ↦ rw newline (([], ap (λ c. c ∷ []) (eqb-true b 10 newline), refl), all_neat (physical_lines (c ∷ bs)) more)
      | inr other ↦ rw other (on_first-neat b (physical_lines (c ∷ bs)) other more)
    ]

comment_neat : (line : List ℕ) → IsNeatLine line → Neat (record { kind = Comment; bytes = 35 ∷ line })
comment_neat line (prefix, is, shut) = (35 ∷ prefix, ap (λ l. 35 ∷ l) is, open_after 35 prefix refl shut)

comments_neat : (lines : List (List ℕ)) → AllByRecursion IsNeatLine lines → AllByRecursion Neat (map (λ line. record { kind = Comment; bytes = 35 ∷ line }) lines)
comments_neat [] all = tt
comments_neat (line ∷ lines) all = (comment_neat line all.0, comments_neat lines all.1)

pub commented_neat : (piece : Piece) → Ends piece → AllByRecursion Neat (comments_of piece.bytes)
commented_neat piece ends = comments_neat (physical_lines piece.bytes) (all_neat (physical_lines piece.bytes) (lines_neat piece.bytes ends))

pub all_end : (pieces : List Piece) → AllByRecursion Neat pieces → AllByRecursion Ends pieces
all_end [] all = tt
all_end (piece ∷ pieces) all = (closed-neat piece all.0, all_end pieces all.1)

-- ---- canonical fields, and other names

folded_open : (c : ℕ) (value : List ℕ) → (c == 10) ≡ false → ends_newline (c ∷ folded value) ≡ false
folded_open c [] other = other
folded_open c (b ∷ value) other = elim (cases_Bool (b == 10)) [
  | inl newline ↦ rw newline (folded_open 32 value refl)
  | inr byte ↦ rw byte (folded_open b value byte)
]

pub canonical_neat : (name value : List ℕ) → Neat (canonical name value)
canonical_neat name value =
    (name ++ (58 ∷ 32 ∷ folded value), sym (append_assoc name (58 ∷ 32 ∷ folded value) (10 ∷ [])), ends_newline-at name 58 (32 ∷ folded value) ∙ folded_open 32 value refl)

pub canonical_ends : (name value : List ℕ) → Ends (canonical name value)
canonical_ends name value = closed-neat (canonical name value) (canonical_neat name value)

name_open : (bs : List ℕ) → IsTrue (list_all continues_name bs) → ends_newline bs ≡ false
name_open [] all = refl
name_open (b ∷ bs) all =
    let parts = and_parts (continues_name b) (list_all continues_name bs) all in
    open_after b bs (passes_apart continues_name b 10 parts.0 refl) (name_open bs parts.1)

plain_open : (name : List ℕ) → is_plain_name name ≡ true → ends_newline name ≡ false
plain_open [] plain = absurd (false≢true plain)
plain_open (b ∷ bs) plain =
    let parts = and_parts (is_letter b) (list_all continues_name bs) plain in
    open_after b bs (passes_apart is_letter b 10 parts.0 refl) (name_open bs parts.1)

short_name : (bytes : List ℕ) (o : Option ℕ) → IsBelow (length bytes) o → 0 < length bytes → length (option_map_or (λ c. take c bytes) o []) < length bytes
short_name bytes None below some = omega (arith, some)
short_name bytes (Some c) below some = omega (arith, below, length-take c bytes)

name_within : (kind : Kind) (bytes : List ℕ) → 0 < length bytes → length (name_of (record { kind = kind; bytes = bytes })) < length bytes
name_within Blank bytes some = omega (arith, some)
name_within Comment bytes some = omega (arith, some)
name_within Field bytes some = short_name bytes (colon_of bytes) (colon_of_is_below bytes) some

-- after the name, up to the newline
renamed_parts : (name : List ℕ) (piece : Piece) (prefix : List ℕ) → piece.bytes ≡ prefix ++ 10 ∷ [] → (renamed name piece).bytes ≡ (name ++ drop (length (name_of piece)) prefix) ++ 10 ∷ []
renamed_parts name piece prefix is =
    let within = name_within piece.kind piece.bytes (omega (arith, ap length is, length-append prefix (10 ∷ []))) in
    ap (λ l. name ++ drop (length (name_of piece)) l) is
    ∙ ap (λ l. name ++ l) (drop-append-le (length (name_of piece)) prefix (10 ∷ []) (omega (arith, within, ap length is, length-append prefix (10 ∷ []))))
    ∙ sym (append_assoc name (drop (length (name_of piece)) prefix) (10 ∷ []))

renamed_ends : (name : List ℕ) (piece : Piece) → Ends piece → Ends (renamed name piece)
renamed_ends name piece ends =
    let prefix = prefix_of piece.bytes ends in
    ap ends_newline (renamed_parts name piece prefix.0 prefix.1) ∙ ends_newline-push (name ++ drop (length (name_of piece)) prefix.0)

renamed_neat : (name : List ℕ) (piece : Piece) → is_plain_name name ≡ true → Neat piece → Neat (renamed name piece)
renamed_neat name piece plain (prefix, is, shut) = (
  name ++ drop (length (name_of piece)) prefix,
  renamed_parts name piece prefix is,
  open_append name (drop (length (name_of piece)) prefix) (plain_open name plain) (ends_newline-drop (length (name_of piece)) prefix shut),
)

-- ---- what picked and added fields become

-- the new name can be written
abbrev pub IsPlainAction : Action → Type 0
IsPlainAction (Set value) = Unit {0}
IsPlainAction (Add value) = Unit {0}
IsPlainAction (SetAdd value) = Unit {0}
IsPlainAction (Rename name) = is_plain_name name ≡ true
IsPlainAction Delete = Unit {0}
IsPlainAction CommentFields = Unit {0}

pub picked_ends : (action : Action) (piece : Piece) → Ends piece → AllByRecursion Ends (picked_becomes action piece)
picked_ends (Set value) piece ends = (closed-neat (canonical (name_of piece) value) (canonical_neat (name_of piece) value), tt)
picked_ends (Add value) piece ends = (ends, tt)
picked_ends (SetAdd value) piece ends = (closed-neat (canonical (name_of piece) value) (canonical_neat (name_of piece) value), tt)
picked_ends (Rename name) piece ends = (renamed_ends name piece ends, tt)
picked_ends Delete piece ends = tt
picked_ends CommentFields piece ends = all_end (comments_of piece.bytes) (commented_neat piece ends)

pub picked_neat : (action : Action) (piece : Piece) → IsPlainAction action → Neat piece → AllByRecursion Neat (picked_becomes action piece)
picked_neat (Set value) piece plain neat = (canonical_neat (name_of piece) value, tt)
picked_neat (Add value) piece plain neat = (neat, tt)
picked_neat (SetAdd value) piece plain neat = (canonical_neat (name_of piece) value, tt)
picked_neat (Rename name) piece plain neat = (renamed_neat name piece plain neat, tt)
picked_neat Delete piece plain neat = tt
picked_neat CommentFields piece plain neat = commented_neat piece (closed-neat piece neat)

canonicals_neat : (value : List ℕ) (items : List Item) → AllByRecursion Neat (map (λ item. canonical item.name value) items)
canonicals_neat value [] = tt
canonicals_neat value (item ∷ items) = (canonical_neat item.name value, canonicals_neat value items)

pub added_neat : (action : Action) (items : List Item) (own : List Piece) → AllByRecursion Neat (added action items own)
added_neat (Set value) items own = tt
added_neat (Add value) items own = canonicals_neat value items
added_neat (SetAdd value) items own = canonicals_neat value (filter (picks_none own) items)
added_neat (Rename name) items own = tt
added_neat Delete items own = tt
added_neat CommentFields items own = tt
