-- What is answered for a type that a `%type` or a `%typedef` field writes.
use Rattle.std.specs.Prelude.{◌≡◌, List, ℕ, Option, Some, None, Result, Ok, Err}
use Rattle.std.specs.declared.rc.Rc.{Rc}
use Rattle.regex.specs.declared.string.regex.Regex.{Regex}
use Rattle.rec_sex.specs.Patterns.{IsBuiltFrom, PatternMayBeRefused}
use Rattle.rec_check.specs.declared.field_types.field_type.FieldType.{FieldType as StoredType}
use Rattle.rec_text.specs.declared.or_memory.OrMemory.{OrMemory}
use Rattle.rec_check.specs.declared.descriptors.descriptor_fault.DescriptorFault.{DescriptorFault}
use Rattle.rec_text.specs.declared.or_memory.OrMemory.TheVariants.{Refused, OutOfMemory}
use Rattle.rec_check.specs.declared.descriptors.descriptor_fault.DescriptorFault.TheVariants.{Bad, Unsupported, Pattern}
use Rattle.rec_check.specs.Stored.{type_stored}
use Rattle.rec_check.specs.Types.{FieldType, matching, IsBuilt, kind_of}

-- the type that is written, with its pattern built; a refusal where none is, or where its pattern is refused
abbrev pub IsTypeOf : Option (FieldType (List ℕ)) → Result StoredType (OrMemory DescriptorFault) → Type 0
IsTypeOf written (Ok value_type) =
    (one : FieldType (List ℕ)) × (written ≡ Some one) × IsBuilt one (type_stored value_type)
IsTypeOf written (Err (Refused Bad)) = written ≡ None
IsTypeOf written (Err (Refused Unsupported)) = ⊥
IsTypeOf written (Err (Refused Pattern)) =
    (pattern : List ℕ) × (written ≡ Some (matching pattern)) × PatternMayBeRefused pattern
IsTypeOf written (Err OutOfMemory) = Unit {0}

-- the kind that is written first, and its type with its pattern built; a refusal where that isn't right, or its pattern
-- refused
abbrev pub IsKindIn : List ℕ → Result (List ℕ × StoredType) (OrMemory DescriptorFault) → Type 0
IsKindIn text (Ok (kind, value_type)) =
    (one : FieldType (List ℕ)) × (kind_of text ≡ Some (kind, one)) × IsBuilt one (type_stored value_type)
IsKindIn text (Err (Refused Bad)) = kind_of text ≡ None
IsKindIn text (Err (Refused Unsupported)) = ⊥
IsKindIn text (Err (Refused Pattern)) =
    (kind : List ℕ) × (pattern : List ℕ) × (kind_of text ≡ Some (kind, matching pattern)) × PatternMayBeRefused pattern
IsKindIn text (Err OutOfMemory) = Unit {0}

-- the pattern that is built of a text, or a refusal of that
abbrev pub IsPatternFor : List ℕ → Result Regex (OrMemory DescriptorFault) → Type 0
IsPatternFor text (Ok pattern) = IsBuiltFrom text pattern
IsPatternFor text (Err (Refused Bad)) = ⊥
IsPatternFor text (Err (Refused Unsupported)) = ⊥
IsPatternFor text (Err (Refused Pattern)) = PatternMayBeRefused text
IsPatternFor text (Err OutOfMemory) = Unit {0}

-- the same of a pattern that several types share
abbrev pub IsSharedPatternFor : {Z : Type 0} → List ℕ → Result (Rc Regex Z) (OrMemory DescriptorFault) → Type 0
IsSharedPatternFor text (Ok pattern) = IsPatternFor text (Ok pattern.value)
IsSharedPatternFor text (Err refusal) = IsPatternFor text (Err refusal)
