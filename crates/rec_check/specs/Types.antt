-- Types of fields: how a descriptor writes them, and which values fit them.
use Rattle.std.specs.Prelude.{◌≡◌, ℕ, ℤ, pos, negsuc, ◌-◌, ◌^◌, Bool, true, false, ◌==◌, ◌||◌, ◌&&◌, not, nat_le}
use Rattle.std.specs.Prelude.{int_lt, List, [], ◌∷◌, count_by, codes, Option, Some, None, is_some, option_map}
use Rattle.std.specs.Prelude.{option_and_then, if◌then◌else◌}
use Rattle.std.specs.List.{list_all, list_any, slice_split}
use Rattle.std.specs.Option.{option_map_or}
use Rattle.std.specs.Str.{bytes_eq, is_utf8}
use Rattle.regex.specs.Patterns.{Re}
use Rattle.rec_text.specs.Ascii.{newline, space, left_parenthesis, right_parenthesis, comma, hyphen, digit_0, digit_9}
use Rattle.rec_text.specs.Ascii.{underscore}
use Rattle.rec_text.specs.Bytes.{is_letter, is_among}
use Rattle.rec_text.specs.Canonical.{is_field_name, is_plain_name}
use Rattle.rec_sex.specs.Grammar.{IsPatternOf}
use Rattle.rec_sex.specs.Integers.{int_of, trimmed}
use Rattle.rec_sex.specs.Meaning.{is_found}
use Rattle.rec_sex.specs.Patterns.{PatternMayBeRefused}
use Rattle.rec_check.specs.declared.field_types.known_kind.KnownKind.{KnownKind}
use Rattle.rec_check.specs.declared.field_types.known_kind.KnownKind.TheVariants.{Integer, Range, Line, Size, Truth}
use Rattle.rec_check.specs.declared.field_types.known_kind.KnownKind.TheVariants.{Enum, Regexp, Unchecked}
use Rattle.rec_check.specs.Words.{words, stripped, after_first_word}

-- ---- types

-- A type. Its pattern, where it has one, is a P: the text of the pattern, or what `regex` builds of that.
pub data FieldType (P : Type 0) : Type 0 where
  integer : FieldType P
  range : ℤ → ℤ → FieldType P
  line : FieldType P
  size : ℕ → FieldType P
  truth : FieldType P
  one_of : List (List ℕ) → FieldType P
  matching : P → FieldType P
  unchecked : FieldType P

-- the words of `bool`
abbrev pub truths : List (List ℕ)
truths = codes "yes" ∷ codes "no" ∷ codes "0" ∷ codes "1" ∷ codes "true" ∷ codes "false" ∷ []

-- a byte that goes on with a character of UTF-8
abbrev pub is_continuation : ℕ → Bool
is_continuation b = nat_le 128 b && nat_le b 191

-- how many characters the text has, where it is UTF-8
abbrev pub characters : List ℕ → ℕ
characters text = count_by (λ b. not (is_continuation b)) text

-- the integer lies between these two, ends included
abbrev pub lies_between : ℤ → ℤ → ℤ → Bool
lies_between least greatest z = not (int_lt z least) && not (int_lt greatest z)

-- the value fits the type
abbrev pub fits : FieldType Re → List ℕ → Bool
fits integer value = is_some (int_of value)
fits (range least greatest) value = option_map_or (lies_between least greatest) (int_of value) false
fits line value = not (list_any (λ b. b == newline) value)
fits (size most) value = nat_le (characters value) most
fits truth value = is_among truths (trimmed value)
fits (one_of items) value = is_among items (trimmed value)
fits (matching pattern) value = is_found pattern value
fits unchecked value = true

-- ---- how a type is written

-- an integer that isn't negative
abbrev pub natural_of : List ℕ → Option ℕ
natural_of text = option_and_then (λ z. elim z [ pos n ↦ Some n | negsuc n ↦ None ]) (int_of text)

-- `int`, `line` and `bool` have no words of their own
abbrev pub alone : List (List ℕ) → FieldType (List ℕ) → Option (FieldType (List ℕ))
alone [] value_type = Some value_type
alone (word ∷ more) value_type = None

-- the end of a range: an integer, or MIN or MAX for the ends of 64 bits
abbrev pub bound_of : List ℕ → Option ℤ
bound_of word = if bytes_eq word (codes "MIN") then Some (negsuc (2 ^ 63 - 1))
    else if bytes_eq word (codes "MAX") then Some (pos (2 ^ 63 - 1))
    else int_of word

-- MAX, or MIN MAX; with one word the least is 0
abbrev pub range_of : List (List ℕ) → Option (FieldType (List ℕ))
range_of (high ∷ []) = option_map (λ greatest. range (pos 0) greatest) (bound_of high)
range_of (low ∷ high ∷ []) =
    option_and_then (λ least. option_map (λ greatest. range least greatest) (bound_of high)) (bound_of low)
range_of _ = None

abbrev pub size_type_of : List (List ℕ) → Option (FieldType (List ℕ))
size_type_of (number ∷ []) = option_map (λ most. size most) (natural_of number)
size_type_of _ = None

-- a letter or a digit; and with `_` or `-` too
abbrev pub is_alphanumeric : ℕ → Bool
is_alphanumeric b = is_letter b || (nat_le digit_0 b && nat_le b digit_9)

abbrev pub continues_item : ℕ → Bool
continues_item b = is_alphanumeric b || b == underscore || b == hyphen

-- a word of an `enum`
abbrev pub is_item : List ℕ → Bool
is_item [] = false
is_item (b ∷ bs) = is_alphanumeric b && list_all continues_item bs

-- a blank instead of each comment: `(` up to the next `)`; nothing where one stays open
abbrev mutual
  pub without_comments : List ℕ → Option (List ℕ)
  without_comments [] = Some []
  without_comments (b ∷ bs) =
      if b == left_parenthesis then after_comment bs else option_map (λ rest. b ∷ rest) (without_comments bs)

  pub after_comment : List ℕ → Option (List ℕ)
  after_comment [] = None
  after_comment (b ∷ bs) =
      if b == right_parenthesis then option_map (λ rest. space ∷ rest) (without_comments bs) else after_comment bs

-- one or more words
abbrev pub enum_of : List (List ℕ) → Option (FieldType (List ℕ))
enum_of [] = None
enum_of (item ∷ items) = if list_all is_item (item ∷ items) then Some (one_of (item ∷ items)) else None

-- the pattern stands between two equal bytes
abbrev pub between : ℕ → List ℕ → Option (List ℕ)
between delimiter [] = None
between delimiter (b ∷ []) = if b == delimiter then Some [] else None
between delimiter (b ∷ c ∷ bs) = option_map (λ rest. b ∷ rest) (between delimiter (c ∷ bs))

abbrev pub pattern_in : List ℕ → Option (List ℕ)
pattern_in [] = None
pattern_in (delimiter ∷ bs) = between delimiter bs

abbrev pub regexp_of : List ℕ → Option (FieldType (List ℕ))
regexp_of text =
    option_and_then (λ pattern. if is_utf8 pattern then Some (matching pattern) else None) (pattern_in (stripped text))

-- the kinds that need no definition; values of the last ones aren't checked
abbrev pub known_kind : List ℕ → Option KnownKind
known_kind word =
    if bytes_eq word (codes "int") then Some Integer
    else if bytes_eq word (codes "range") then Some Range
    else if bytes_eq word (codes "line") then Some Line
    else if bytes_eq word (codes "size") then Some Size
    else if bytes_eq word (codes "bool") then Some Truth
    else if bytes_eq word (codes "enum") then Some Enum
    else if bytes_eq word (codes "regexp") then Some Regexp
    else if is_among
    (codes "real" ∷ codes "date" ∷ codes "email" ∷ codes "uuid" ∷ codes "field" ∷ codes "rec" ∷ []) word
    then Some Unchecked
    else None

-- the type of a known kind, with what stands after its word; nothing where that isn't right
abbrev pub type_of_known : KnownKind → List ℕ → Option (FieldType (List ℕ))
type_of_known Integer following = alone (words following) integer
type_of_known Range following = range_of (words following)
type_of_known Line following = alone (words following) line
type_of_known Size following = size_type_of (words following)
type_of_known Truth following = alone (words following) truth
type_of_known Enum following = option_and_then (λ text. enum_of (words text)) (without_comments following)
type_of_known Regexp following = regexp_of following
type_of_known Unchecked following = Some unchecked

-- what stands after a kind that isn't known means nothing
abbrev pub type_of_kind : List ℕ → List ℕ → Option (FieldType (List ℕ))
type_of_kind kind following = option_map_or (λ known. type_of_known known following) (known_kind kind) (Some unchecked)

-- the word of a kind that comes first, and the type that it means; nothing where there is none, or where it isn't right
abbrev pub kind_of : List ℕ → Option (List ℕ × FieldType (List ℕ))
kind_of text = elim (words text) [
  | [] ↦ None
  | kind ∷ rest ↦ option_map (λ value_type. (kind, value_type)) (type_of_kind kind (after_first_word text))
]

-- ---- fields with a type

-- what a `%type` field says: the names of some fields, the word of a kind, and the type that this means
pub record Written : Type 0 where
  pub names : List (List ℕ)
  pub kind : List ℕ
  pub value_type : FieldType (List ℕ)

-- what a `%type` field of a descriptor says, with its pattern built
pub record Typing : Type 0 where
  pub names : List (List ℕ)
  pub kind : List ℕ
  pub value_type : FieldType Re

-- a `%typedef` field of a descriptor: the kind that it defines, and what it says of this: the word of a kind, and the
-- type that is written, with its pattern built
pub record Definition : Type 0 where
  pub name : List ℕ
  pub kind : List ℕ
  pub value_type : FieldType Re

-- the names, joined by commas
abbrev pub names_of : List ℕ → Option (List (List ℕ))
names_of word =
    let names : List (List ℕ) = slice_split (λ b. b == comma) word in
    if list_all is_field_name names then Some names else None

-- what a `%type` field says: names, a kind, and the words of the kind; nothing where it doesn't say so
abbrev pub typing_of : List ℕ → Option Written
typing_of value = elim (words value) [
  | [] ↦ None
  | names ∷ more ↦ option_and_then (λ names.
      option_map (λ (kind, value_type). record { names = names; kind = kind; value_type = value_type })
      (kind_of (after_first_word value))) (names_of names)
]

-- the same type, with the pattern that `regex` builds of its text
abbrev pub IsBuilt : FieldType (List ℕ) → FieldType Re → Type 0
IsBuilt (matching text) (matching pattern) = IsPatternOf text pattern
IsBuilt (matching text) _ = ⊥
IsBuilt integer built = built ≡ integer
IsBuilt (range least greatest) built = built ≡ range least greatest
IsBuilt line built = built ≡ line
IsBuilt (size most) built = built ≡ size most
IsBuilt truth built = built ≡ truth
IsBuilt (one_of items) built = built ≡ one_of items
IsBuilt unchecked built = built ≡ unchecked

-- what a `%type` field of this value says, with the pattern that is built of it
abbrev pub IsTyping : List ℕ → Typing → Type 0
IsTyping value typing =
    (written : FieldType (List ℕ))
    × (typing_of value ≡ Some (record { names = typing.names; kind = typing.kind; value_type = written }))
    × IsBuilt written typing.value_type

-- the type that a `%type` field gives has a pattern that `regex` may refuse, for another cause than memory
abbrev pub TypeMayBeRefused : List ℕ → Type 0
TypeMayBeRefused value =
    (names : List (List ℕ)) × (kind : List ℕ) × (pattern : List ℕ)
    × (typing_of value ≡ Some (record { names = names; kind = kind; value_type = matching pattern }))
    × PatternMayBeRefused pattern

-- ---- kinds that are defined

-- what a `%typedef` field says: the name of a kind, and the word and the type of another
pub record WrittenDefinition : Type 0 where
  pub name : List ℕ
  pub kind : List ℕ
  pub value_type : FieldType (List ℕ)

-- a name, as a set may have it, a kind, and the words of the kind; nothing where it doesn't say so
abbrev pub definition_of : List ℕ → Option WrittenDefinition
definition_of value = elim (words value) [
  | [] ↦ None
  | name ∷ more ↦ if is_plain_name name
      then option_map (λ (kind, value_type). record { name = name; kind = kind; value_type = value_type })
      (kind_of (after_first_word value))
      else None
]

-- what a `%typedef` field of this value says, with the pattern that is built of it
abbrev pub IsDefinition : List ℕ → Definition → Type 0
IsDefinition value definition = (written : FieldType (List ℕ))
    × (definition_of value ≡ Some (record { name = definition.name; kind = definition.kind; value_type = written }))
    × IsBuilt written definition.value_type

-- the type that a `%typedef` field gives has a pattern that `regex` may refuse, for another cause than memory
abbrev pub DefinitionMayBeRefused : List ℕ → Type 0
DefinitionMayBeRefused value =
    (name : List ℕ) × (kind : List ℕ) × (pattern : List ℕ)
    × (definition_of value ≡ Some (record { name = name; kind = kind; value_type = matching pattern }))
    × PatternMayBeRefused pattern
