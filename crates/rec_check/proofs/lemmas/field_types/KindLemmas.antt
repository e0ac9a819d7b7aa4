-- The types of kinds.
use Rattle.std.proofs.Common.{◌≡◌, ◌∙◌, ℕ, ◌<◌, ◌==◌, true, cond, List, [], ◌∷◌, length, Option, Some, None, Err, refl, ap, sym, arith}
use Rattle.std.specs.List.{list_all, slice_split}
use Rattle.std.specs.Option.{option_and_then, option_map}
use Rattle.rec_text.specs.Canonical.{is_field_name, is_plain_name}
use Rattle.rec_text.specs.declared.or_memory.OrMemory.{OrMemory}
use Rattle.rec_check.specs.declared.descriptors.descriptor_fault.DescriptorFault.{DescriptorFault}
use Rattle.rec_text.specs.declared.or_memory.OrMemory.TheVariants.{Refused, OutOfMemory}
use Rattle.rec_check.specs.declared.descriptors.descriptor_fault.DescriptorFault.TheVariants.{Bad, Unsupported, Pattern}
use Rattle.rec_check.specs.proving.Kinds.{IsKindIn, IsTypeOf}
use Rattle.rec_check.specs.Types.{FieldType, DefinitionMayBeRefused, Written, WrittenDefinition, one_of, definition_of, is_item, without_comments, enum_of, kind_of, names_of, type_of_kind, typing_of}
use Rattle.rec_check.specs.Words.{words, after_first_word}

enum_of-items : (items : List (List ℕ)) → 0 < length items → list_all is_item items ≡ true → enum_of items ≡ Some (one_of items)
enum_of-items [] some are = absurd (omega arith)
enum_of-items (item ∷ items) some are = rw are refl

-- the type of an `enum` with these words
pub enum_type-items : (text kept : List ℕ) (items : List (List ℕ)) → Some kept ≡ without_comments text → items ≡ words kept → 0 < length items → list_all is_item items ≡ true
    → option_and_then (λ bare. enum_of (words bare)) (without_comments text) ≡ Some (one_of items)
enum_type-items text kept items kept_is items_are some are =
    ap (option_and_then (λ bare. enum_of (words bare))) (sym kept_is) ∙ ap enum_of (sym items_are) ∙ enum_of-items items some are

-- ---- what a `%type` field says, and a `%typedef` field

-- a text whose first word is this kind
module _ (text kind rest : List ℕ) (first : words text ≡ kind ∷ words rest) (rest_is : rest ≡ after_first_word text) where
  -- the kind by the words
  abbrev kind_by : List (List ℕ) → Option (List ℕ × FieldType (List ℕ))
  kind_by ws = elim ws [ [] ↦ None | k ∷ others ↦ option_map (λ value_type. (k, value_type)) (type_of_kind k (after_first_word text)) ]

  pub kind_of-parts : kind_of text ≡ option_map (λ value_type. (kind, value_type)) (type_of_kind kind rest)
  kind_of-parts = ap kind_by first ∙ ap (λ following. option_map (λ value_type. (kind, value_type)) (type_of_kind kind following)) (sym rest_is)

  pub kind_refused : (refusal : OrMemory DescriptorFault) → IsTypeOf (type_of_kind kind rest) (Err refusal) → IsKindIn text (Err refusal)
  kind_refused (Refused Bad) told = kind_of-parts ∙ ap (option_map (λ value_type. (kind, value_type))) told
  kind_refused (Refused Unsupported) told = told
  kind_refused (Refused Pattern) (pattern, written, refused) = (kind, pattern, kind_of-parts ∙ ap (option_map (λ value_type. (kind, value_type))) written, refused)
  kind_refused OutOfMemory told = tt

-- a field whose first word gives these names
module _ (value joined following : List ℕ) (names : List (List ℕ)) (first : words value ≡ joined ∷ words following) (following_is : following ≡ after_first_word value)
    (split : names ≡ slice_split (λ b. b == 44) joined) (are : list_all is_field_name names ≡ true) where
  names_are : names_of joined ≡ Some names
  names_are = ap (λ ns. cond (list_all is_field_name ns) (Some ns) None) (sym split) ∙ ap (λ b. cond b (Some names) None) are

  -- what the field says, by its words
  abbrev typing_by : List (List ℕ) → Option Written
  typing_by ws = elim ws [
    | [] ↦ None
    | ns ∷ more ↦ option_and_then (λ ns. option_map (λ (kind, value_type). record { names = ns; kind = kind; value_type = value_type }) (kind_of (after_first_word value))) (names_of ns)
  ]

  pub typing_of-parts : typing_of value ≡ option_map (λ (kind, value_type). record { names = names; kind = kind; value_type = value_type }) (kind_of following)
  typing_of-parts =
      ap typing_by first ∙ (ap (option_and_then (λ ns. option_map (λ (kind, value_type). record { names = ns; kind = kind; value_type = value_type }) (kind_of (after_first_word value)))) names_are
      ∙ ap (λ text. option_map (λ (kind, value_type). record { names = names; kind = kind; value_type = value_type }) (kind_of text)) (sym following_is))

-- a field whose first word is this name
module _ (value name following : List ℕ) (first : words value ≡ name ∷ words following) (following_is : following ≡ after_first_word value) where
  -- what the field says, by its words
  abbrev definition_by : List (List ℕ) → Option WrittenDefinition
  definition_by ws = elim ws [
    | [] ↦ None
    | n ∷ more ↦ cond (is_plain_name n) (option_map (λ (kind, value_type). record { name = n; kind = kind; value_type = value_type }) (kind_of (after_first_word value))) None
  ]

  pub definition_of-parts : definition_of value ≡ cond (is_plain_name name) (option_map (λ (kind, value_type). record { name = name; kind = kind; value_type = value_type }) (kind_of following)) None
  definition_of-parts =
      ap definition_by first ∙ ap (λ text. cond (is_plain_name name) (option_map (λ (kind, value_type). record { name = name; kind = kind; value_type = value_type }) (kind_of text)) None)
      (sym following_is)

  pub refused_definition : (refusal : OrMemory DescriptorFault) → is_plain_name name ≡ true → IsKindIn following (Err refusal) → refusal ≡ Refused Pattern → DefinitionMayBeRefused value
  refused_definition (Refused Pattern) plain (kind, pattern, written, refused) is = (
    name,
    kind,
    pattern,
    definition_of-parts ∙ ap (λ b. cond b (option_map (λ (kind, value_type). record { name = name; kind = kind; value_type = value_type }) (kind_of following)) None) plain
        ∙ ap (option_map (λ (kind, value_type). record { name = name; kind = kind; value_type = value_type })) written,
    refused,
  )
  refused_definition refusal plain told is = cc
