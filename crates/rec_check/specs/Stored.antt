-- A schema in memory, and what it stands for.
use Rattle.std.specs.Prelude.{ℕ, map, option_map}
use Rattle.regex.specs.Patterns.{Re}
use Rattle.regex.specs.Strings.{regex_pattern}
use Rattle.rec_text.specs.declared.fault.Fault.{Fault}
use Rattle.rec_text.specs.declared.fault.Fault.TheVariants.{OutOfMemory, BadDescriptor, Unsupported, BadPattern}
use Rattle.rec_sex.specs.Expressions.{term_of}
use Rattle.rec_text.specs.declared.or_memory.OrMemory.{OrMemory}
use Rattle.rec_check.specs.declared.descriptors.descriptor_fault.DescriptorFault.{DescriptorFault}
use Rattle.rec_text.specs.declared.or_memory.OrMemory.TheVariants.{Refused, OutOfMemory as NoMemory}
use Rattle.rec_check.specs.declared.descriptors.descriptor_fault.DescriptorFault.TheVariants.{
  Bad,
  Unsupported as NotSupported,
  Pattern,
}
use Rattle.rec_check.specs.declared.field_types.definition.Definition.{Definition as StoredDefinition}
use Rattle.rec_check.specs.declared.field_types.field_type.FieldType.{FieldType as StoredType}
use Rattle.rec_check.specs.declared.field_types.field_type.FieldType.TheVariants.{Integer, Range, Line, Size, Truth}
use Rattle.rec_check.specs.declared.field_types.field_type.FieldType.TheVariants.{OneOf, Matching, Unchecked}
use Rattle.rec_check.specs.declared.field_types.field_type.Typing.{Typing as StoredTyping}
use Rattle.rec_check.specs.declared.rules.Rules.{Rules as StoredRules}
use Rattle.rec_check.specs.declared.schema.Schema.{Schema}
use Rattle.rec_check.specs.Rules.{Rules}
use Rattle.rec_check.specs.Schemas.{Described}
use Rattle.rec_check.specs.Types.{FieldType, integer, range, line, size, truth, one_of, matching, unchecked, Typing}
use Rattle.rec_check.specs.Types.{Definition}

abbrev pub type_stored : StoredType → FieldType Re
type_stored Integer = integer
type_stored (Range least greatest) = range least greatest
type_stored Line = line
type_stored (Size most) = size most
type_stored Truth = truth
type_stored (OneOf items) = one_of items.items
type_stored (Matching pattern) = matching (regex_pattern pattern.value)
type_stored Unchecked = unchecked

abbrev pub typing_stored : StoredTyping → Typing
typing_stored typing =
    record { names = typing.names.items; kind = typing.kind; value_type = type_stored typing.value_type }

abbrev pub definition_stored : StoredDefinition → Definition
definition_stored definition =
    record { name = definition.name; kind = definition.kind; value_type = type_stored definition.value_type }

abbrev pub rules_stored : StoredRules → Rules
rules_stored rules = record {
  key = rules.key;
  mandatory = rules.mandatory.items;
  prohibited = rules.prohibited.items;
  unique = rules.unique.items;
  singular = rules.singular.items;
  allowed = option_map (λ names. names.items) rules.allowed;
  automatic = rules.automatic.items;
  types = map typing_stored rules.types.items;
  definitions = map definition_stored rules.definitions.items;
  size = rules.size;
  constraints = map term_of rules.constraints.items;
}

-- the sets and the rules of a schema
abbrev pub described : Schema → Described
described schema = record { sets = schema.sets.items; rules = map rules_stored schema.rules.items }

-- the fault of a field that begins at a line
abbrev pub fault_at_line : OrMemory DescriptorFault → ℕ → Fault
fault_at_line (Refused Bad) at = BadDescriptor at
fault_at_line (Refused NotSupported) at = Unsupported at
fault_at_line (Refused Pattern) at = BadPattern
fault_at_line NoMemory at = OutOfMemory
