-- How a record is read: what the fields of a descriptor say so far, what one more adds, and what is answered of the
-- whole.
use Rattle.std.specs.Prelude.{◌≡◌, ℕ, ◌<◌, Bool, true, false, List, [], ◌∷◌, ◌++◌, take, map, is_some, slice_get}
use Rattle.std.specs.Prelude.{unwrap_or, Option, Some, None, option_and_then, Result, Ok, Err}
use Rattle.rec_text.specs.declared.element.Element.{Element}
use Rattle.rec_text.specs.declared.fault.Fault.{Fault}
use Rattle.rec_text.specs.declared.fault.Fault.TheVariants.{BadDescriptor, Unsupported, BadExpression, BadPattern}
use Rattle.rec_text.specs.Elements.{Piece, name_of}
use Rattle.rec_text.specs.Places.{pieces_of}
use Rattle.rec_text.specs.Reading.{line_after}
use Rattle.rec_text.specs.Values.{value_of}
use Rattle.rec_sex.specs.declared.expr.Expr.{Expr}
use Rattle.rec_sex.specs.Expressions.{IsExpression, ExpressionMayBeRefused, term_of}
use Rattle.rec_sex.specs.Grammar.{Term}
use Rattle.rec_check.specs.declared.field_types.definition.Definition.{Definition as StoredDefinition}
use Rattle.rec_check.specs.declared.descriptors.descriptor.Descriptor.{Descriptor}
use Rattle.rec_check.specs.declared.descriptors.draft.Draft.{Draft}
use Rattle.rec_check.specs.declared.field_types.field_type.Typing.{Typing as StoredTyping}
use Rattle.rec_text.specs.declared.or_memory.OrMemory.{OrMemory}
use Rattle.rec_check.specs.declared.descriptors.descriptor_fault.DescriptorFault.{DescriptorFault}
use Rattle.rec_text.specs.declared.or_memory.OrMemory.TheVariants.{Refused, OutOfMemory}
use Rattle.rec_check.specs.declared.descriptors.descriptor_fault.DescriptorFault.TheVariants.{
  Bad,
  Unsupported as NotSupported,
  Pattern,
}
use Rattle.rec_check.specs.declared.descriptors.special.Special.{Special}
use Rattle.rec_check.specs.declared.descriptors.special.Special.TheVariants.{Rec, Key, Mandatory, Prohibit, Unique}
use Rattle.rec_check.specs.declared.descriptors.special.Special.TheVariants.{Singular, Allowed, Auto, Typed, Typedef}
use Rattle.rec_check.specs.declared.descriptors.special.Special.TheVariants.{Size, Constraint, Confidential}
use Rattle.rec_check.specs.Descriptors.{Flaw, bad, unsupported, first_word, special_flaw, special_of, type_of, bound_in}
use Rattle.rec_check.specs.Rules.{Rules, no_rules, AreRules}
use Rattle.rec_check.specs.Schemas.{Described, FieldMayBeRefused}
use Rattle.rec_check.specs.proving.Flaws.{FieldIsRead, field_flaw}
use Rattle.rec_check.specs.proving.Steps.{with_record}
use Rattle.rec_check.specs.Stored.{definition_stored, rules_stored, typing_stored}
use Rattle.rec_check.specs.Types.{Definition, Typing, IsDefinition, IsTyping, DefinitionMayBeRefused, TypeMayBeRefused}
use Rattle.rec_check.specs.Words.{words}
use Rattle.rec_text.specs.Bytes.{is_among}

-- ---- one field

-- what the fields of a descriptor say so far: the type, and the rules
pub record Said : Type 0 where
  pub record_type : Option (List ℕ)
  pub rules : Rules

-- nothing yet
abbrev pub bare : Said
bare = record { record_type = None; rules = no_rules }

abbrev pub said : Descriptor → Said
said descriptor = record { record_type = descriptor.record_type; rules = rules_stored descriptor.rules }

-- a field of this name was read before; of the others there may be many
abbrev pub is_repeated : Special → Said → Bool
is_repeated Rec so_far = is_some so_far.record_type
is_repeated Key so_far = is_some so_far.rules.key
is_repeated Size so_far = is_some so_far.rules.size
is_repeated _ so_far = false

-- what a sound field of this name adds
abbrev pub Adds : Special → List ℕ → Said → Said → Type 0
Adds Rec value old new = new ≡ record old { record_type = Some (first_word (words value)) }
Adds Key value old new = new ≡ record old { rules = record old.rules { key = slice_get (words value) 0 } }
Adds Mandatory value old new =
    new ≡ record old { rules = record old.rules { mandatory = old.rules.mandatory ++ words value } }
Adds Prohibit value old new =
    new ≡ record old { rules = record old.rules { prohibited = old.rules.prohibited ++ words value } }
Adds Unique value old new = new ≡ record old { rules = record old.rules { unique = old.rules.unique ++ words value } }
Adds Singular value old new =
    new ≡ record old { rules = record old.rules { singular = old.rules.singular ++ words value } }
Adds Allowed value old new =
    new ≡ record old { rules = record old.rules { allowed = Some (unwrap_or old.rules.allowed [] ++ words value) } }
Adds Auto value old new =
    new ≡ record old { rules = record old.rules { automatic = old.rules.automatic ++ words value } }
Adds Typed value old new =
    (typing : Typing) × IsTyping value typing
    × (new ≡ record old { rules = record old.rules { types = old.rules.types ++ typing ∷ [] } })
Adds Typedef value old new =
    (definition : Definition) × IsDefinition value definition
    × (new ≡ record old { rules = record old.rules { definitions = old.rules.definitions ++ definition ∷ [] } })
Adds Size value old new = new ≡ record old { rules = record old.rules { size = bound_in value } }
Adds Constraint value old new =
    (term : Term) × IsExpression value term
    × (new ≡ record old { rules = record old.rules { constraints = old.rules.constraints ++ term ∷ [] } })
Adds Confidential value old new = ⊥

-- a field of this name has a pattern that may be refused
abbrev pub MayBeRefusedAs : Special → List ℕ → Type 0
MayBeRefusedAs Typed value = TypeMayBeRefused value
MayBeRefusedAs Typedef value = DefinitionMayBeRefused value
MayBeRefusedAs Constraint value = ExpressionMayBeRefused value
MayBeRefusedAs _ value = ⊥

-- What is answered of a field with which this is wrong: what it says is added, its flaw is told, or its pattern is
-- refused.
abbrev pub Answers : Option Flaw → Type 0 → Type 0 → Result (Unit {0}) (OrMemory DescriptorFault) → Type 0
Answers flaw Added IsRefused (Ok done) = (flaw ≡ None) × Added
Answers flaw Added IsRefused (Err (Refused Bad)) = flaw ≡ Some bad
Answers flaw Added IsRefused (Err (Refused NotSupported)) = flaw ≡ Some unsupported
Answers flaw Added IsRefused (Err (Refused Pattern)) = (flaw ≡ None) × IsRefused
Answers flaw Added IsRefused (Err OutOfMemory) = Unit {0}

-- the same of types, definitions and expressions in memory
abbrev pub AddsTyping : List ℕ → List StoredTyping → List StoredTyping → Type 0
AddsTyping value old new =
    (typing : Typing) × IsTyping value typing × (map typing_stored new ≡ map typing_stored old ++ typing ∷ [])

abbrev pub AddsDefinition : List ℕ → List StoredDefinition → List StoredDefinition → Type 0
AddsDefinition value old new =
    (definition : Definition) × IsDefinition value definition
    × (map definition_stored new ≡ map definition_stored old ++ definition ∷ [])

abbrev pub AddsConstraint : List ℕ → List Expr → List Expr → Type 0
AddsConstraint value old new =
    (term : Term) × IsExpression value term × (map term_of new ≡ map term_of old ++ term ∷ [])

-- what is told of a constraint that is refused so
abbrev pub refusal_for : Fault → OrMemory DescriptorFault
refusal_for (BadExpression at) = Refused Bad
refusal_for BadPattern = Refused Pattern
refusal_for _ = OutOfMemory

-- what an element of a descriptor adds: a comment and a field of another name nothing
abbrev pub AddsOf : Option Special → List ℕ → Said → Said → Type 0
AddsOf None value old new = new ≡ old
AddsOf (Some special) value old new = Adds special value old new

abbrev pub AddsField : Piece → Said → Said → Type 0
AddsField piece old new = AddsOf (special_of (name_of piece)) (value_of piece) old new

-- what is wrong with an element after those that say this
abbrev pub flaw_after : List (List ℕ) → Said → Piece → Option Flaw
flaw_after named so_far piece =
    option_and_then (λ special. special_flaw special (is_repeated special so_far) named (value_of piece))
    (special_of (name_of piece))

-- what is answered of an element after those that say this, memory aside
abbrev pub AnswersField : List (List ℕ) → Piece → Said → Said → Result (Unit {0}) (OrMemory DescriptorFault) → Type 0
AnswersField named piece old new answer =
    Answers (flaw_after named old piece) (AddsField piece old new) (FieldMayBeRefused piece) answer

-- ---- one descriptor

-- the type is none of these, where there is one
abbrev pub IsFresh : List (List ℕ) → Option (List ℕ) → Type 0
IsFresh named None = Unit {0}
IsFresh named (Some record_type) = is_among named record_type ≡ false

-- none of the fields is faulty, and this is what they say
pub record AreSaid (named : List (List ℕ)) (fields : List Piece) (said : Said) : Type 0 where
  pub sound : (k : ℕ) → field_flaw named fields k ≡ None
  pub record_type : said.record_type ≡ type_of fields
  pub fresh : IsFresh named said.record_type
  pub rules : AreRules fields said.rules

-- the first of the fields with which anything is wrong; it begins at this line, and those before it are read
pub record HasFieldFlaw (text : List ℕ) (named : List (List ℕ)) (fields : List Element) (flaw : Flaw) (line : ℕ)
    : Type 0 where
  pub at : ℕ
  pub first : (k : ℕ) → k < at → FieldIsRead named (pieces_of fields) k
  pub met : field_flaw named (pieces_of fields) at ≡ Some flaw
  pub field : Element
  pub stands : slice_get fields at ≡ Some field
  pub number : line ≡ line_after (take field.at text)

-- a field has a pattern that may be refused, nothing is wrong with it, and those before it are read
pub record DescriptorMayBeRefused (named : List (List ℕ)) (fields : List Piece) : Type 0 where
  pub at : ℕ
  pub first : (k : ℕ) → k < at → FieldIsRead named fields k
  pub sound : field_flaw named fields at ≡ None
  pub field : Piece
  pub stands : slice_get fields at ≡ Some field
  pub refused : FieldMayBeRefused field

-- what is answered of a descriptor with these fields, memory aside
abbrev pub IsRead : List ℕ → List (List ℕ) → List Element → Result Said Fault → Type 0
IsRead text named fields (Ok said) = AreSaid named (pieces_of fields) said
IsRead text named fields (Err (BadDescriptor line)) = HasFieldFlaw text named fields bad line
IsRead text named fields (Err (Unsupported line)) = HasFieldFlaw text named fields unsupported line
IsRead text named fields (Err BadPattern) = DescriptorMayBeRefused named (pieces_of fields)
IsRead text named fields (Err _) = ⊥

-- ---- one record

-- the untyped set alone, without a record
abbrev pub untyped : Described
untyped = record {
  sets = record { kind = None; head = None; members = record { start = 0; end = 0 } } ∷ [];
  rules = no_rules ∷ [];
}

-- a schema that is being read
abbrev pub drafted : Draft → Described
drafted draft = record { sets = draft.sets.items; rules = map rules_stored draft.rules.items }

-- what the record of an index adds to a schema: a descriptor its set and rules, another record a member
abbrev pub AddsRecordAs : Bool → List (List ℕ) → List Piece → ℕ → Described → Described → Type 0
AddsRecordAs false named fields index old new = (new.sets ≡ with_record old.sets index None) × (new.rules ≡ old.rules)
AddsRecordAs true named fields index old new =
    (said : Said) × AreSaid named fields said × (new.sets ≡ with_record old.sets index said.record_type)
    × (new.rules ≡ old.rules ++ said.rules ∷ [])

abbrev pub AddsRecord : List (List ℕ) → List Piece → ℕ → Described → Described → Type 0
AddsRecord named fields index old new = AddsRecordAs (is_some (type_of fields)) named fields index old new

-- it is a descriptor that is refused so
abbrev pub IsRefusedRecord : List ℕ → List (List ℕ) → List Element → Fault → Type 0
IsRefusedRecord text named fields fault =
    (is_some (type_of (pieces_of fields)) ≡ true) × IsRead text named fields (Err fault)
