-- The pattern between two equal bytes, and its type.
use Rattle.std.proofs.Common.{◌≡◌, ◌≢◌, ◌∙◌, ℕ, Bool, true, false, eqb, List, [], ◌∷◌, ◌++◌, Some, None, Ok, Err, refl, ap, subst, sym, eq-eqb}
use Rattle.std.proofs.lemmas.Bool.{false_from_ne_true, ne_eqb}
use Rattle.std.proofs.lemmas.Str.{IsUtf8-from_is_utf8, is_utf8-from_IsUtf8}
use Rattle.std.specs.Option.{option_map}
use Rattle.std.specs.Prelude.{if◌then◌else◌}
use Rattle.std.specs.Str.{IsUtf8, is_utf8}
use Rattle.regex.specs.declared.string.regex.Regex.{Regex}
use Rattle.regex.specs.Strings.{regex_pattern}
use Rattle.rec_sex.specs.Patterns.{IsBuiltFrom}
use Rattle.rec_check.specs.declared.field_types.field_type.FieldType.{FieldType as StoredType}
use Rattle.rec_text.specs.declared.or_memory.OrMemory.{OrMemory}
use Rattle.rec_check.specs.declared.descriptors.descriptor_fault.DescriptorFault.{DescriptorFault}
use Rattle.rec_text.specs.declared.or_memory.OrMemory.TheVariants.{Refused, OutOfMemory}
use Rattle.rec_check.specs.declared.descriptors.descriptor_fault.DescriptorFault.TheVariants.{Bad, Unsupported, Pattern}
use Rattle.rec_check.specs.proving.Kinds.{IsPatternFor, IsTypeOf}
use Rattle.rec_check.specs.Stored.{type_stored}
use Rattle.rec_check.specs.Types.{between, matching, pattern_in, regexp_of, IsBuilt}
use Rattle.rec_check.specs.Words.{stripped}

-- ---- the delimiters

option_map-if : (same : Bool) (b : ℕ) (prefix : List ℕ) → option_map (λ rest. b ∷ rest) (if same then Some prefix else None) ≡ (if same then Some (b ∷ prefix) else None)
option_map-if true b prefix = refl
option_map-if false b prefix = refl

between-append : (delimiter last : ℕ) (prefix : List ℕ) → between delimiter (prefix ++ last ∷ []) ≡ (if eqb last delimiter then Some prefix else None)
between-append delimiter last [] = refl
between-append delimiter last (b ∷ []) = option_map-if (eqb last delimiter) b []
between-append delimiter last (b ∷ (c ∷ prefix)) =
    ap (option_map (λ rest. b ∷ rest)) (between-append delimiter last (c ∷ prefix)) ∙ option_map-if (eqb last delimiter) b (c ∷ prefix)

module _ (text following prefix : List ℕ) (first last : ℕ) (begins : text ≡ first ∷ following) (ends : following ≡ prefix ++ last ∷ []) where
  pattern_in-parts : pattern_in text ≡ (if eqb last first then Some prefix else None)
  pattern_in-parts = ap pattern_in begins ∙ ap (between first) ends ∙ between-append first last prefix

  pub pattern_in-same : first ≡ last → Some prefix ≡ pattern_in text
  pattern_in-same same = sym (rw (eq-eqb last first (sym same)) at pattern_in-parts)

  pub pattern_in-differs : first ≢ last → None ≡ pattern_in text
  pattern_in-differs differ = sym (rw (ne_eqb last first (λ same. differ (sym same))) at pattern_in-parts)

-- ---- the type

pub regexp_of-none : (text bare found : List ℕ) → bare ≡ stripped text → Some found ≡ pattern_in bare → ¬ IsUtf8 found → regexp_of text ≡ None
regexp_of-none text bare found stripped_is found_is not_utf8 =
    let is_none : is_utf8 found ≡ false = false_from_ne_true (is_utf8 found) (λ is. not_utf8 (IsUtf8-from_is_utf8 found is)) in
    let between_is : pattern_in (stripped text) ≡ Some found = ap pattern_in (sym stripped_is) ∙ sym found_is in
    rw (between_is, is_none)

module _ (text bare found pattern : List ℕ) (stripped_is : bare ≡ stripped text) (found_is : Some found ≡ pattern_in bare) (same : pattern ≡ found) (utf8 : IsUtf8 found) where
  regexp_of-some : regexp_of text ≡ Some (matching pattern)
  regexp_of-some =
      let between_is : pattern_in (stripped text) ≡ Some found = ap pattern_in (sym stripped_is) ∙ sym found_is in
      rw (between_is, is_utf8-from_IsUtf8 found utf8, same)

  pub regexp_type-refused : (refusal : OrMemory DescriptorFault) → IsPatternFor pattern (Err refusal) → IsTypeOf (regexp_of text) (Err refusal)
  regexp_type-refused (Refused Bad) refused = absurd refused
  regexp_type-refused (Refused Unsupported) refused = absurd refused
  regexp_type-refused (Refused Pattern) refused = (pattern, regexp_of-some, refused)
  regexp_type-refused OutOfMemory refused = tt

  pub regexp_type-built : (built : Regex) (value_type : StoredType) → type_stored value_type ≡ matching (regex_pattern built) → IsBuiltFrom pattern built → IsTypeOf (regexp_of text) (Ok value_type)
  regexp_type-built built value_type stored is = (matching pattern, regexp_of-some, subst (IsBuilt (matching pattern)) (sym stored) (built, is.0, is.1, is.2, refl))
