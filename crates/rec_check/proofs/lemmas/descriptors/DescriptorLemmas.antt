-- What the fields of a descriptor say, as they are read one by one.
use Rattle.std.proofs.Common.{◌≡◌, ◌∙◌, ℕ, ◌+◌, ◌<◌, ◌≤◌, Bool, true, false, not, cond, ◌||◌, ◌&&◌, List, [], ◌∷◌, ◌++◌, length, take, get_or, Option, Some, None, Err, unwrap_or, refl, ap, sym, subst}
use Rattle.std.proofs.Common.{inl, inr, arith}
use Rattle.std.proofs.lemmas.Bool.{cases_Bool, cases_lt, false≢true}
use Rattle.std.proofs.lemmas.List.{append-nil, take_more, take_all}
use Rattle.std.proofs.lemmas.List.Concat.{flat_map-append}
use Rattle.std.proofs.lemmas.Option.{slice_get-get_or, slice_get_past, slice_get_within, get_or_from_slice_get, slice_get-map}
use Rattle.std.proofs.lemmas.Slice.Eq.{bytes_eq-Decides}
use Rattle.std.specs.Prelude.{codes, find}
use Rattle.std.specs.List.{AllByRecursion, AllZip, list_any, flat_map, slice_get}
use Rattle.std.specs.Option.{IfSome, is_some, option_map, option_and_then}
use Rattle.std.specs.Str.{bytes_eq}
use Rattle.rec_text.specs.declared.element.Element.{Element}
use Rattle.rec_text.specs.declared.fault.Fault.{Fault}
use Rattle.rec_text.specs.Canonical.{is_plain_name}
use Rattle.rec_text.specs.Elements.{Piece, name_of, has_name}
use Rattle.rec_text.specs.Places.{piece_of, pieces_of}
use Rattle.rec_text.specs.Faults.{IsMemoryOr}
use Rattle.rec_text.specs.Reading.{line_after}
use Rattle.rec_text.specs.Values.{value_of}
use Rattle.rec_text.proofs.lemmas.ListLemmas.{AllByRecursion-slice_get, slice_get-take}
use Rattle.rec_sex.specs.Expressions.{IsExpression}
use Rattle.rec_sex.specs.Meaning.{values_of}
use Rattle.rec_text.specs.declared.or_memory.OrMemory.{OrMemory}
use Rattle.rec_check.specs.declared.descriptors.descriptor_fault.DescriptorFault.{DescriptorFault}
use Rattle.rec_text.specs.declared.or_memory.OrMemory.TheVariants.{Refused, OutOfMemory}
use Rattle.rec_check.specs.declared.descriptors.descriptor_fault.DescriptorFault.TheVariants.{Bad, Unsupported as NotSupported, Pattern}
use Rattle.rec_check.specs.declared.descriptors.special.Special.{Special}
use Rattle.rec_check.specs.declared.descriptors.special.Special.TheVariants.{Rec, Key, Mandatory, Prohibit, Unique, Singular, Allowed, Auto, Typed, Typedef, Size, Constraint, Confidential}
use Rattle.rec_check.specs.Descriptors.{Flaw, bad, unsupported, bad_unless, bound_in, first_word, is_one_name, rec_flaw, rec_name, special_flaw, special_of, type_of}
use Rattle.rec_check.specs.proving.Reading.{Said, Adds, AddsOf, AddsField, AnswersField, AreSaid, HasFieldFlaw, IsFresh, IsRead, bare, flaw_after, is_repeated}
use Rattle.rec_check.specs.Rules.{Rules, AreRules, names_in}
use Rattle.rec_check.specs.Schemas.{FieldIsBuilt}
use Rattle.rec_check.specs.proving.Flaws.{FieldIsRead, element_flaw, field_flaw}
use Rattle.rec_check.specs.Stored.{fault_at_line}
use Rattle.rec_check.specs.Types.{IsDefinition, IsTyping}
use Rattle.rec_check.specs.Words.{words}
use Rattle.rec_text.specs.Bytes.{is_among}

-- ---- the names of special fields

abbrev pub name_for : Special → List ℕ
name_for Rec = codes "%rec"
name_for Key = codes "%key"
name_for Mandatory = codes "%mandatory"
name_for Prohibit = codes "%prohibit"
name_for Unique = codes "%unique"
name_for Singular = codes "%singular"
name_for Allowed = codes "%allowed"
name_for Auto = codes "%auto"
name_for Typed = codes "%type"
name_for Typedef = codes "%typedef"
name_for Size = codes "%size"
name_for Constraint = codes "%constraint"
name_for Confidential = codes "%confidential"

special_of-name_for : (special : Special) → special_of (name_for special) ≡ Some special
special_of-name_for Rec = refl
special_of-name_for Key = refl
special_of-name_for Mandatory = refl
special_of-name_for Prohibit = refl
special_of-name_for Unique = refl
special_of-name_for Singular = refl
special_of-name_for Allowed = refl
special_of-name_for Auto = refl
special_of-name_for Typed = refl
special_of-name_for Typedef = refl
special_of-name_for Size = refl
special_of-name_for Constraint = refl
special_of-name_for Confidential = refl

module _ (name : List ℕ) (special : Special) where
  -- one link of the chain of names
  name_or : (other : Special) (rest : Option Special) → cond (bytes_eq name (name_for other)) (Some other) rest ≡ Some special
      → (rest ≡ Some special → name ≡ name_for special) → name ≡ name_for special
  name_or other rest is following = elim (cases_Bool (bytes_eq name (name_for other))) [
    | inl here ↦
        let same : Some other ≡ Some special = sym (ap (λ b. cond b (Some other) rest) here) ∙ is in
        let same : other ≡ special = cc in
        (bytes_eq-Decides name (name_for other)).0 here ∙ ap name_for same
    | inr past ↦ following (sym (ap (λ b. cond b (Some other) rest) past) ∙ is)
  ]

  pub name_is : special_of name ≡ Some special → name ≡ name_for special
  name_is is =
      name_or Rec _ is (λ a. name_or Key _ a (λ b. name_or Mandatory _ b (λ c. name_or Prohibit _ c (λ d. name_or Unique _ d (λ e. name_or Singular _ e
      (λ f. name_or Allowed _ f (λ g. name_or Auto _ g (λ h. name_or Typed _ h (λ i. name_or Typedef _ i (λ j. name_or Size _ j (λ k. name_or Constraint _ k
      (λ l. name_or Confidential None l (λ none. cc)))))))))))))

name_for-apart : (name : List ℕ) (special : Special) → special_of name ≡ None → bytes_eq name (name_for special) ≡ false
name_for-apart name special none = elim (cases_Bool (bytes_eq name (name_for special))) [
  | inl same ↦
      let both : Some special ≡ None = sym (special_of-name_for special) ∙ ap special_of (sym ((bytes_eq-Decides name (name_for special)).0 same)) ∙ none in
      cc
  | inr apart ↦ apart
]

same_special : (special other : Special) → bytes_eq (name_for special) (name_for other) ≡ true → special ≡ other
same_special special other same =
    let both : Some special ≡ Some other = sym (special_of-name_for special) ∙ ap special_of ((bytes_eq-Decides (name_for special) (name_for other)).0 same) ∙ special_of-name_for other in
    cc

-- ---- the values of fields

pub values_of-append : (name : List ℕ) (prefix : List Piece) (piece : Piece) → values_of name (prefix ++ piece ∷ []) ≡ values_of name prefix ++ cond (has_name name piece) (value_of piece ∷ []) []
values_of-append name [] piece = refl
values_of-append name (first ∷ prefix) piece = elim (cases_Bool (has_name name first)) [
  | inl here ↦ rw here (ap (λ vs. value_of first ∷ vs) (values_of-append name prefix piece))
  | inr past ↦ rw past (values_of-append name prefix piece)
]

-- there is one
abbrev pub is_met : List (List ℕ) → Bool
is_met [] = false
is_met (value ∷ values) = true

pub list_any-values_of : (name : List ℕ) (fields : List Piece) → list_any (has_name name) fields ≡ is_met (values_of name fields)
list_any-values_of name [] = refl
list_any-values_of name (piece ∷ fields) = elim (cases_Bool (has_name name piece)) [
  | inl here ↦ rw here refl
  | inr past ↦ rw past (list_any-values_of name fields)
]

is_some-type_of : (fields : List Piece) → is_some (type_of fields) ≡ list_any (has_name rec_name) fields
is_some-type_of [] = refl
is_some-type_of (piece ∷ fields) = elim (cases_Bool (has_name rec_name piece)) [
  | inl here ↦ rw here refl
  | inr past ↦ rw past (is_some-type_of fields)
]

pub is_some-type_of-pieces : (fields : List Element) → list_any (λ element. has_name rec_name (piece_of element)) fields ≡ is_some (type_of (pieces_of fields))
is_some-type_of-pieces [] = refl
is_some-type_of-pieces (field ∷ fields) = elim (cases_Bool (has_name rec_name (piece_of field))) [
  | inl here ↦ rw here refl
  | inr past ↦ rw past (is_some-type_of-pieces fields)
]

-- the type that the first field names which makes a record a descriptor
pub type_of-found : (fields : List Element) → type_of (pieces_of fields)
    ≡ option_map (λ (e : Element). first_word (words (value_of (piece_of e)))) (find (λ (e : Element). has_name rec_name (piece_of e)) fields)
type_of-found [] = refl
type_of-found (field ∷ fields) = elim (cases_Bool (has_name rec_name (piece_of field))) [
  | inl here ↦ rw here refl
  | inr past ↦ rw past (type_of-found fields)
]

-- the first value of the name gives the type
abbrev pub type_in : List (List ℕ) → Option (List ℕ)
type_in values = option_map (λ value. first_word (words value)) (slice_get values 0)

pub type_in-values_of : (fields : List Piece) → type_in (values_of rec_name fields) ≡ type_of fields
type_in-values_of [] = refl
type_in-values_of (piece ∷ fields) = elim (cases_Bool (has_name rec_name piece)) [
  | inl here ↦ rw here refl
  | inr past ↦ rw past (type_in-values_of fields)
]

-- ---- what fields of one name say

-- what is said by all fields of a name, which have these values
abbrev Part : Special → List (List ℕ) → Said → Type 0
Part Rec values said = said.record_type ≡ type_in values
Part Key values said = (said.rules.key ≡ slice_get (flat_map words values) 0) × (is_some said.rules.key ≡ is_met values)
Part Mandatory values said = said.rules.mandatory ≡ flat_map words values
Part Prohibit values said = said.rules.prohibited ≡ flat_map words values
Part Unique values said = said.rules.unique ≡ flat_map words values
Part Singular values said = said.rules.singular ≡ flat_map words values
Part Allowed values said = said.rules.allowed ≡ cond (is_met values) (Some (flat_map words values)) None
Part Auto values said = said.rules.automatic ≡ flat_map words values
Part Typed values said = AllZip IsTyping values said.rules.types
Part Typedef values said = AllZip IsDefinition values said.rules.definitions
Part Size values said = (said.rules.size ≡ option_and_then bound_in (slice_get values 0)) × (is_some said.rules.size ≡ is_met values)
Part Constraint values said = AllZip IsExpression values said.rules.constraints
Part Confidential values said = Unit {0}

part_none : (special : Special) → Part special [] bare
part_none Rec = refl
part_none Key = (refl, refl)
part_none Mandatory = refl
part_none Prohibit = refl
part_none Unique = refl
part_none Singular = refl
part_none Allowed = refl
part_none Auto = refl
part_none Typed = tt
part_none Typedef = tt
part_none Size = (refl, refl)
part_none Constraint = tt
part_none Confidential = tt

-- what is said anew by fields of one name changes no other part
module _ (values : List (List ℕ)) (old : Said) where
  -- the part of another name stays as it is
  abbrev Keeps : Special → Special → Said → Type 0
  Keeps special other new = bytes_eq (name_for special) (name_for other) ≡ false → Part other values old → Part other values new

  keeps_other : (special other : Special) (value : List ℕ) (new : Said) → Adds special value old new → Keeps special other new
  keeps_other Rec Rec value new adds apart part = cc
  keeps_other Rec other value new adds apart part = subst (Part other values) (sym adds) part
  keeps_other Key Key value new adds apart part = cc
  keeps_other Key other value new adds apart part = subst (Part other values) (sym adds) part
  keeps_other Mandatory Mandatory value new adds apart part = cc
  keeps_other Mandatory other value new adds apart part = subst (Part other values) (sym adds) part
  keeps_other Prohibit Prohibit value new adds apart part = cc
  keeps_other Prohibit other value new adds apart part = subst (Part other values) (sym adds) part
  keeps_other Unique Unique value new adds apart part = cc
  keeps_other Unique other value new adds apart part = subst (Part other values) (sym adds) part
  keeps_other Singular Singular value new adds apart part = cc
  keeps_other Singular other value new adds apart part = subst (Part other values) (sym adds) part
  keeps_other Allowed Allowed value new adds apart part = cc
  keeps_other Allowed other value new adds apart part = subst (Part other values) (sym adds) part
  keeps_other Auto Auto value new adds apart part = cc
  keeps_other Auto other value new adds apart part = subst (Part other values) (sym adds) part
  keeps_other Typed Typed value new adds apart part = cc
  keeps_other Typed other value new adds apart part = subst (Part other values) (sym adds.2) part
  keeps_other Typedef Typedef value new adds apart part = cc
  keeps_other Typedef other value new adds apart part = subst (Part other values) (sym adds.2) part
  keeps_other Size Size value new adds apart part = cc
  keeps_other Size other value new adds apart part = subst (Part other values) (sym adds) part
  keeps_other Constraint Constraint value new adds apart part = cc
  keeps_other Constraint other value new adds apart part = subst (Part other values) (sym adds.2) part
  keeps_other Confidential other value new adds apart part = absurd adds

-- ---- one field more

-- the lists of all values and of one more
names_grow : (values names : List (List ℕ)) (value : List ℕ) → names ≡ flat_map words values → names ++ words value ≡ flat_map words (values ++ value ∷ [])
names_grow values names value is =
    ap (λ ns. ns ++ words value) is ∙ ap (λ ns. flat_map words values ++ ns) (sym (append-nil (words value))) ∙ sym (flat_map-append words values (value ∷ []))

allowed_grow : (values : List (List ℕ)) (names : Option (List (List ℕ))) (value : List ℕ) → names ≡ cond (is_met values) (Some (flat_map words values)) None
    → ◌≡◌ {A = Option (List (List ℕ))} (Some (unwrap_or names [] ++ words value)) (cond (is_met (values ++ value ∷ [])) (Some (flat_map words (values ++ value ∷ []))) None)
allowed_grow [] names value is = ap (λ o. Some (unwrap_or o [] ++ words value)) is ∙ ap Some (sym (append-nil (words value)))
allowed_grow (first ∷ values) names value is = ap (λ o. Some (unwrap_or o [] ++ words value)) is ∙ ap Some (names_grow (first ∷ values) (flat_map words (first ∷ values)) value refl)

pub AllZip-push : {X Y : Type 0} (R : X → Y → Type 0) (xs : List X) (ys : List Y) (x : X) (y : Y) → AllZip R xs ys → R x y → AllZip R (xs ++ x ∷ []) (ys ++ y ∷ [])
AllZip-push R [] [] x y all one = (one, tt)
AllZip-push R [] (w ∷ ys) x y all one = absurd all
AllZip-push R (v ∷ xs) [] x y all one = absurd all
AllZip-push R (v ∷ xs) (w ∷ ys) x y all one = (all.0, AllZip-push R xs ys x y all.1 one)

-- none is met where none may be
none_met : (values : List (List ℕ)) (repeated : Bool) → repeated ≡ is_met values → repeated ≡ false → values ≡ []
none_met [] repeated is first = refl
none_met (value ∷ values) repeated is first = absurd (false≢true (sym first ∙ is))

rec_flaw-first : (repeated : Bool) (named : List (List ℕ)) (ws : List (List ℕ)) → rec_flaw repeated named ws ≡ None → repeated ≡ false
rec_flaw-first repeated named [] sound = cc
rec_flaw-first true named (record_type ∷ source) sound = cc
rec_flaw-first false named (record_type ∷ source) sound = refl

bad_unless-first : (repeated sound : Bool) → bad_unless (not repeated && sound) ≡ None → (repeated ≡ false) × (sound ≡ true)
bad_unless-first true sound none = cc
bad_unless-first false true none = (refl, refl)
bad_unless-first false false none = cc

first_of_one : (ws : List (List ℕ)) → is_one_name ws ≡ true → (slice_get (ws ++ []) 0 ≡ slice_get ws 0) × (is_some (slice_get ws 0) ≡ true)
first_of_one [] one = absurd (false≢true one)
first_of_one (name ∷ []) one = (refl, refl)
first_of_one (name ∷ other ∷ more) one = absurd (false≢true one)

is_some-type_in : (values : List (List ℕ)) → is_some (type_in values) ≡ is_met values
is_some-type_in [] = refl
is_some-type_in (value ∷ values) = refl

-- the part of its own name takes a sound field up
module _ (values : List (List ℕ)) (value : List ℕ) (named : List (List ℕ)) (old new : Said) where
  grows : (special : Special) → special_flaw special (is_repeated special old) named value ≡ None → Adds special value old new → Part special values old → Part special (values ++ value ∷ []) new
  grows Rec sound adds part =
      let none = none_met values (is_some old.record_type) (ap is_some part ∙ is_some-type_in values) (rec_flaw-first (is_some old.record_type) named (words value) sound) in
      ap (λ s. s.record_type) adds ∙ ap (λ vs. type_in (vs ++ value ∷ [])) (sym none)
  grows Key sound adds part =
      let first = bad_unless-first (is_some old.rules.key) (is_one_name (words value)) sound in
      let none = none_met values (is_some old.rules.key) part.1 first.0 in
      let one = first_of_one (words value) first.1 in (
        ap (λ s. s.rules.key) adds ∙ sym one.0 ∙ ap (λ vs. slice_get (flat_map words (vs ++ value ∷ [])) 0) (sym none),
        ap (λ s. is_some s.rules.key) adds ∙ one.1 ∙ ap (λ vs. is_met (vs ++ value ∷ [])) (sym none),
      )
  grows Mandatory sound adds part = ap (λ s. s.rules.mandatory) adds ∙ names_grow values old.rules.mandatory value part
  grows Prohibit sound adds part = ap (λ s. s.rules.prohibited) adds ∙ names_grow values old.rules.prohibited value part
  grows Unique sound adds part = ap (λ s. s.rules.unique) adds ∙ names_grow values old.rules.unique value part
  grows Singular sound adds part = ap (λ s. s.rules.singular) adds ∙ names_grow values old.rules.singular value part
  grows Allowed sound adds part = ap (λ s. s.rules.allowed) adds ∙ allowed_grow values old.rules.allowed value part
  grows Auto sound adds part = ap (λ s. s.rules.automatic) adds ∙ names_grow values old.rules.automatic value part
  grows Typed sound adds part = subst (Part Typed (values ++ value ∷ [])) (sym adds.2) (AllZip-push IsTyping values old.rules.types value adds.0 part adds.1)
  grows Typedef sound adds part = subst (Part Typedef (values ++ value ∷ [])) (sym adds.2) (AllZip-push IsDefinition values old.rules.definitions value adds.0 part adds.1)
  grows Size sound adds part =
      let first = bad_unless-first (is_some old.rules.size) (is_some (bound_in value)) sound in
      let none = none_met values (is_some old.rules.size) part.1 first.0 in (
        ap (λ s. s.rules.size) adds ∙ ap (λ vs. option_and_then bound_in (slice_get (vs ++ value ∷ []) 0)) (sym none),
        ap (λ s. is_some s.rules.size) adds ∙ first.1 ∙ ap (λ vs. is_met (vs ++ value ∷ [])) (sym none),
      )
  grows Constraint sound adds part = subst (Part Constraint (values ++ value ∷ [])) (sym adds.2) (AllZip-push IsExpression values old.rules.constraints value adds.0 part adds.1)
  grows Confidential sound adds part = tt

-- ---- what some fields say

-- each part of what these fields say
pub record AreParts (fields : List Piece) (said : Said) : Type 0 where
  pub part : (special : Special) → Part special (values_of (name_for special) fields) said

pub parts_none : AreParts [] bare
parts_none = record { part = part_none }

module _ (fields : List Piece) (piece : Piece) where
  values_more : (name : List ℕ) → has_name name piece ≡ true → values_of name (fields ++ piece ∷ []) ≡ values_of name fields ++ value_of piece ∷ []
  values_more name here = values_of-append name fields piece ∙ ap (λ b. values_of name fields ++ cond b (value_of piece ∷ []) []) here

  values_same : (name : List ℕ) → has_name name piece ≡ false → values_of name (fields ++ piece ∷ []) ≡ values_of name fields
  values_same name other = values_of-append name fields piece ∙ ap (λ b. values_of name fields ++ cond b (value_of piece ∷ []) []) other ∙ append-nil (values_of name fields)

  -- a field that says nothing
  pub parts_other : (said : Said) → special_of (name_of piece) ≡ None → AreParts fields said → AreParts (fields ++ piece ∷ []) said
  parts_other said none are = record {
    part = λ special. subst (λ vs. Part special vs said) (sym (values_same (name_for special) (name_for-apart (name_of piece) special none))) (are.part special);
  }

  module _ (named : List (List ℕ)) (old new : Said) (special : Special) (is : special_of (name_of piece) ≡ Some special) (are : AreParts fields old)
      (sound : special_flaw special (is_repeated special old) named (value_of piece) ≡ None) (adds : Adds special (value_of piece) old new) where
    part_more : (other : Special) → Part other (values_of (name_for other) (fields ++ piece ∷ [])) new
    part_more other =
        let name = name_is (name_of piece) special is in
        elim (cases_Bool (bytes_eq (name_for special) (name_for other))) [
          | inl same ↦
              let grown = grows (values_of (name_for special) fields) (value_of piece) named old new special sound adds (are.part special) in
              let here : has_name (name_for special) piece ≡ true = (bytes_eq-Decides (name_of piece) (name_for special)).1 name in
              let P : Special → Type 0 = λ s. Part s (values_of (name_for s) (fields ++ piece ∷ [])) new in
              subst P (same_special special other same) (subst (λ vs. Part special vs new) (sym (values_more (name_for special) here)) grown)
          | inr apart ↦
              let kept = keeps_other (values_of (name_for other) fields) old special other (value_of piece) new adds apart (are.part other) in
              subst (λ vs. Part other vs new) (sym (values_same (name_for other) (ap (λ n. bytes_eq n (name_for other)) name ∙ apart))) kept
        ]

    pub parts_more : AreParts (fields ++ piece ∷ []) new
    parts_more = record { part = part_more }

-- ---- field by field

module _ (named : List (List ℕ)) (fields : List Piece) (said : Said) (are : AreParts fields said) where
  met_before : (special : Special) (met : Bool) → met ≡ is_met (values_of (name_for special) fields) → list_any (has_name (name_for special)) fields ≡ met
  met_before special met is = list_any-values_of (name_for special) fields ∙ sym is

  special_flaw-following : (special : Special) (value : List ℕ) → special_flaw special (list_any (has_name (name_for special)) fields) named value
      ≡ special_flaw special (is_repeated special said) named value
  special_flaw-following Rec value =
      ap (λ b. special_flaw Rec b named value) (met_before Rec (is_some said.record_type) (ap is_some (are.part Rec) ∙ is_some-type_in (values_of rec_name fields)))
  special_flaw-following Key value = ap (λ b. special_flaw Key b named value) (met_before Key (is_some said.rules.key) (are.part Key).1)
  special_flaw-following Size value = ap (λ b. special_flaw Size b named value) (met_before Size (is_some said.rules.size) (are.part Size).1)
  special_flaw-following special value = refl

  element_flaw-of : (piece : Piece) (found : Option Special) → special_of (name_of piece) ≡ found
      → option_and_then (λ special. special_flaw special (list_any (has_name (name_of piece)) fields) named (value_of piece)) found
      ≡ option_and_then (λ special. special_flaw special (is_repeated special said) named (value_of piece)) found
  element_flaw-of piece None is = refl
  element_flaw-of piece (Some special) is =
      ap (λ n. special_flaw special (list_any (has_name n) fields) named (value_of piece)) (name_is (name_of piece) special is) ∙ special_flaw-following special (value_of piece)

  element_flaw-following : (piece : Piece) → element_flaw named fields piece ≡ flaw_after named said piece
  element_flaw-following piece = element_flaw-of piece (special_of (name_of piece)) refl

  rules_of_parts : AreRules fields said.rules
  rules_of_parts = record {
    key = (are.part Key).0;
    mandatory = are.part Mandatory;
    prohibited = are.part Prohibit;
    unique = are.part Unique;
    singular = are.part Singular;
    allowed = are.part Allowed ∙ ap (λ b. cond b (Some (names_in (codes "%allowed") fields)) None) (sym (list_any-values_of (codes "%allowed") fields));
    automatic = are.part Auto;
    types = are.part Typed;
    definitions = are.part Typedef;
    size = (are.part Size).0;
    constraints = are.part Constraint;
  }

-- ---- each field by itself is built, where all are

module _ {Y : Type 0} (R : List ℕ → Y → Type 0) (name : List ℕ) where
  -- what the values of the name give in a field alone
  abbrev IsGiven : Piece → Type 0
  IsGiven piece = (ys : List Y) × AllZip R (values_of name (piece ∷ [])) ys

  gives : (piece : Piece) (fields : List Piece) (ys : List Y) (here : Bool) → AllZip R (cond here (value_of piece ∷ values_of name fields) (values_of name fields)) ys
      → ((own : List Y) × AllZip R (cond here (value_of piece ∷ []) []) own) × ((rest : List Y) × AllZip R (values_of name fields) rest)
  gives piece fields ys false all = (([], tt), (ys, all))
  gives piece fields [] true all = absurd all
  gives piece fields (y ∷ ys) true all = ((y ∷ [], (all.0, tt)), (ys, all.1))

  each_gives : (fields : List Piece) (ys : List Y) → AllZip R (values_of name fields) ys → AllByRecursion IsGiven fields
  each_gives [] ys all = tt
  each_gives (piece ∷ fields) ys all =
      let both = gives piece fields ys (has_name name piece) all in
      (both.0, each_gives fields both.1.0 both.1.1)

module _ (fields : List Piece) (rules : Rules) (are : AreRules fields rules) where
  built_alone : (piece : Piece) → IsGiven IsTyping (codes "%type") piece → IsGiven IsDefinition (codes "%typedef") piece → IsGiven IsExpression (codes "%constraint") piece
      → FieldIsBuilt piece
  built_alone piece types definitions constraints = (
    record {
      key = slice_get (names_in (codes "%key") (piece ∷ [])) 0;
      mandatory = names_in (codes "%mandatory") (piece ∷ []);
      prohibited = names_in (codes "%prohibit") (piece ∷ []);
      unique = names_in (codes "%unique") (piece ∷ []);
      singular = names_in (codes "%singular") (piece ∷ []);
      allowed = cond (list_any (has_name (codes "%allowed")) (piece ∷ [])) (Some (names_in (codes "%allowed") (piece ∷ []))) None;
      automatic = names_in (codes "%auto") (piece ∷ []);
      types = types.0;
      definitions = definitions.0;
      size = option_and_then bound_in (slice_get (values_of (codes "%size") (piece ∷ [])) 0);
      constraints = constraints.0;
    },
    record {
      key = refl;
      mandatory = refl;
      prohibited = refl;
      unique = refl;
      singular = refl;
      allowed = refl;
      automatic = refl;
      types = types.1;
      definitions = definitions.1;
      size = refl;
      constraints = constraints.1;
    },
  )

  IfSome-by : {X : Type 0} (P : X → Type 0) (o : Option X) → ((x : X) → o ≡ Some x → P x) → IfSome o P
  IfSome-by P None holds = tt
  IfSome-by P (Some x) holds = holds x refl

  pub each_built : (k : ℕ) → IfSome (slice_get fields k) FieldIsBuilt
  each_built k = IfSome-by FieldIsBuilt (slice_get fields k) (λ piece at. built_alone piece
      (AllByRecursion-slice_get (IsGiven IsTyping (codes "%type")) fields k piece (each_gives IsTyping (codes "%type") fields rules.types are.types) at)
      (AllByRecursion-slice_get (IsGiven IsDefinition (codes "%typedef")) fields k piece (each_gives IsDefinition (codes "%typedef") fields rules.definitions are.definitions) at)
      (AllByRecursion-slice_get (IsGiven IsExpression (codes "%constraint")) fields k piece (each_gives IsExpression (codes "%constraint") fields rules.constraints are.constraints) at))

module _ (fields : List Piece) (piece : Piece) (named : List (List ℕ)) (old new : Said) where
  parts_by : (found : Option Special) → special_of (name_of piece) ≡ found → AreParts fields old
      → option_and_then (λ special. special_flaw special (is_repeated special old) named (value_of piece)) found ≡ None
      → AddsOf found (value_of piece) old new → AreParts (fields ++ piece ∷ []) new
  parts_by None is are sound adds = subst (AreParts (fields ++ piece ∷ [])) (sym adds) (parts_other fields piece old is are)
  parts_by (Some special) is are sound adds = parts_more fields piece named old new special is are sound adds

-- ---- the type is a new one

fresh_type : (repeated unnamed among : Bool) (rest : Option Flaw) → cond (repeated || (unnamed || among)) (Some bad) rest ≡ None → among ≡ false
fresh_type true unnamed among rest sound = cc
fresh_type false true among rest sound = cc
fresh_type false false true rest sound = cc
fresh_type false false false rest sound = refl

rec_flaw-fresh : (repeated : Bool) (named : List (List ℕ)) (ws : List (List ℕ)) → rec_flaw repeated named ws ≡ None → is_among named (first_word ws) ≡ false
rec_flaw-fresh repeated named [] sound = cc
rec_flaw-fresh repeated named (record_type ∷ source) sound = fresh_type repeated (not (is_plain_name record_type)) (is_among named record_type) _ sound

module _ (named : List (List ℕ)) (value : List ℕ) (old new : Said) (fresh : IsFresh named old.record_type) where
  fresh_as : (special : Special) → special_flaw special (is_repeated special old) named value ≡ None → Adds special value old new → IsFresh named new.record_type
  fresh_as Rec sound adds = subst (IsFresh named) (sym (ap (λ s. s.record_type) adds)) (rec_flaw-fresh (is_some old.record_type) named (words value) sound)
  fresh_as Typed sound adds = subst (IsFresh named) (sym (ap (λ s. s.record_type) adds.2)) fresh
  fresh_as Typedef sound adds = subst (IsFresh named) (sym (ap (λ s. s.record_type) adds.2)) fresh
  fresh_as Constraint sound adds = subst (IsFresh named) (sym (ap (λ s. s.record_type) adds.2)) fresh
  fresh_as Confidential sound adds = absurd adds
  fresh_as special sound adds = subst (IsFresh named) (sym (ap (λ s. s.record_type) adds)) fresh

  fresh_by : (found : Option Special) → option_and_then (λ special. special_flaw special (is_repeated special old) named value) found ≡ None → AddsOf found value old new
      → IsFresh named new.record_type
  fresh_by None sound adds = subst (IsFresh named) (sym (ap (λ s. s.record_type) adds)) fresh
  fresh_by (Some special) sound adds = fresh_as special sound adds

-- what is known of a descriptor when the fields before an index are read
pub record IsReadUpTo (named : List (List ℕ)) (fields : List Piece) (i : ℕ) (said : Said) : Type 0 where
  pub sound : (k : ℕ) → k < i → field_flaw named fields k ≡ None
  pub are : AreParts (take i fields) said
  pub fresh : IsFresh named said.record_type

pub read_none : (named : List (List ℕ)) (fields : List Piece) (said : Said) → said ≡ bare → IsReadUpTo named fields 0 said
read_none named fields said is = record { sound = λ k less. absurd (omega arith); are = subst (AreParts []) (sym is) parts_none; fresh = subst (IsFresh named) (sym (ap (λ s. s.record_type) is)) tt }

module _ (named : List (List ℕ)) (fields : List Piece) (i : ℕ) (said : Said) (so_far : IsReadUpTo named fields i said) where
  pub read_all : length fields ≤ i → AreSaid named fields said
  read_all past =
      let are : AreParts fields said = subst (λ fs. AreParts fs said) (take_all i fields past) so_far.are in
      record {
        sound = λ k. elim (cases_lt k i) [
          | inl less ↦ so_far.sound k less
          | inr more ↦ ap (option_and_then (element_flaw named (take k fields))) (slice_get_past fields k (omega arith))
        ];
        record_type = are.part Rec ∙ type_in-values_of fields;
        fresh = so_far.fresh;
        rules = rules_of_parts named fields said are;
      }

  module _ (piece : Piece) (met : slice_get fields i ≡ Some piece) where
    field_flaw-met : field_flaw named fields i ≡ flaw_after named said piece
    field_flaw-met = ap (option_and_then (element_flaw named (take i fields))) met ∙ element_flaw-following named (take i fields) said so_far.are piece

    sound_here : flaw_after named said piece ≡ None → (k : ℕ) → k ≤ i → field_flaw named fields k ≡ None
    sound_here here k less = elim (cases_lt k i) [
      | inl earlier ↦ so_far.sound k earlier
      | inr now ↦ let same : k ≡ i = omega arith in ap (field_flaw named fields) same ∙ field_flaw-met ∙ here
    ]

    pub read_more : (more : Said) → flaw_after named said piece ≡ None → AddsField piece said more → IsReadUpTo named fields (i + 1) more
    read_more more sound adds =
        let prefix : take (i + 1) fields ≡ take i fields ++ piece ∷ [] =
        take_more fields i piece (slice_get_within fields i piece met) ∙ ap (λ p. take i fields ++ p ∷ []) (get_or_from_slice_get fields i piece piece met) in
        record {
          sound = λ k less. sound_here sound k (omega arith);
          are = subst (λ fs. AreParts fs more) (sym prefix) (parts_by (take i fields) piece named said more (special_of (name_of piece)) refl so_far.are sound adds);
          fresh = fresh_by named (value_of piece) said more so_far.fresh (special_of (name_of piece)) sound adds;
        }

    read_before : (k : ℕ) → k < i → FieldIsRead named fields k
    read_before k less = record {
      sound = so_far.sound k less;
      built = subst (λ o. IfSome o FieldIsBuilt) (slice_get-take i k fields less) (each_built (take i fields) said.rules (rules_of_parts named (take i fields) said so_far.are) k);
    }

    -- the fault of the field, which is one of these elements
    module _ (text : List ℕ) (elements : List Element) (field : Element) (elements_are : fields ≡ pieces_of elements) (stands : slice_get elements i ≡ Some field) (line : ℕ)
        (line_is : line ≡ line_after (take field.at text)) (more : Said) where
      has_flaw : (flaw : Flaw) → flaw_after named said piece ≡ Some flaw → HasFieldFlaw text named elements flaw line
      has_flaw flaw is = record {
        at = i;
        first = λ k less. subst (λ fs. FieldIsRead named fs k) elements_are (read_before k less);
        met = ap (λ fs. field_flaw named fs i) (sym elements_are) ∙ field_flaw-met ∙ is;
        field = field;
        stands = stands;
        number = line_is;
      }

      is_read_fault : (refusal : OrMemory DescriptorFault) → AnswersField named piece said more (Err refusal)
          → IsMemoryOr (fault_at_line refusal line) (IsRead text named elements (Err (fault_at_line refusal line)))
      is_read_fault (Refused Bad) told = has_flaw bad told
      is_read_fault (Refused NotSupported) told = has_flaw unsupported told
      is_read_fault (Refused Pattern) told = record {
        at = i;
        first = λ k less. subst (λ fs. FieldIsRead named fs k) elements_are (read_before k less);
        sound = ap (λ fs. field_flaw named fs i) (sym elements_are) ∙ field_flaw-met ∙ told.0;
        field = piece;
        stands = ap (λ fs. slice_get fs i) (sym elements_are) ∙ met;
        refused = told.1;
      }
      is_read_fault OutOfMemory told = tt

      pub read_fault : (refusal : OrMemory DescriptorFault) (fault : Fault) → fault ≡ fault_at_line refusal line → AnswersField named piece said more (Err refusal)
          → IsMemoryOr fault (IsRead text named elements (Err fault))
      read_fault refusal fault is told =
          let P : Fault → Type 0 = λ f. IsMemoryOr f (IsRead text named elements (Err f)) in
          subst P (sym is) (is_read_fault refusal told)

pub piece_met : (elements : List Element) (i : ℕ) (d : Element) → i < length elements → slice_get (pieces_of elements) i ≡ Some (piece_of (get_or elements i d))
piece_met elements i d within = slice_get-map piece_of elements i ∙ ap (option_map piece_of) (slice_get-get_or elements i d within)
