-- What the descriptors of a text say, or the first of their fields that is faulty.
use Rattle.std.specs.Prelude.{◌≡◌, ◌≢◌, ℕ, ◌<◌, List, [], ◌∷◌, take, Some, None, Result, Ok, Err}
use Rattle.std.specs.List.{AllZip}
use Rattle.std.specs.declared.ops.Range.{Range}
use Rattle.rec_text.specs.declared.fault.Fault.{Fault}
use Rattle.rec_text.specs.declared.fault.Fault.TheVariants.{BadDescriptor, Unsupported, BadPattern}
use Rattle.rec_text.specs.Elements.{Piece, text_of, name_of}
use Rattle.rec_text.specs.Reading.{line_after}
use Rattle.rec_text.specs.Records.{AreRecords, record_at}
use Rattle.rec_text.specs.Values.{value_of}
use Rattle.rec_sex.specs.Expressions.{ExpressionMayBeRefused}
use Rattle.rec_check.specs.declared.set.Set_.{Set_}
use Rattle.rec_check.specs.declared.descriptors.special.Special.TheVariants.{Typed, Typedef, Constraint}
use Rattle.rec_check.specs.Descriptors.{DescriptorElement, Flaw, StandsAt, bad, unsupported, flaw_of, special_of}
use Rattle.rec_check.specs.Descriptors.{types_of}
use Rattle.rec_check.specs.Rules.{Rules, no_rules, AreRules, AreSameRules}
use Rattle.rec_check.specs.Sets.{AreSets}
use Rattle.rec_check.specs.Types.{DefinitionMayBeRefused, TypeMayBeRefused}

-- what a schema holds: the record sets, and for each of them its rules
pub record Described : Type 0 where
  pub sets : List Set_
  pub rules : List Rules

-- the rules of a set are those of its descriptor; the untyped set has none
abbrev pub IsRuled : List Piece → List (Range ℕ) → Set_ → Rules → Type 0
IsRuled pieces records s rules =
    elim s.head [ None ↦ rules ≡ no_rules | Some head ↦ AreRules (record_at pieces records head) rules ]

-- no field is faulty, the records are cut into these sets, and these are the rules of the sets
pub record IsDescribed (pieces : List Piece) (described : Described) : Type 0 where
  pub records : List (Range ℕ)
  pub are : AreRecords pieces records
  pub sound : (i : ℕ) (element : DescriptorElement) → StandsAt pieces records i element → flaw_of element ≡ None
  pub sets : AreSets (types_of pieces records) described.sets
  pub rules : AllZip (IsRuled pieces records) described.sets described.rules

-- what a field says is built: by itself it gives rules, with its type, its definition or its expression, where it has
-- one
abbrev pub FieldIsBuilt : Piece → Type 0
FieldIsBuilt field = (rules : Rules) × AreRules (field ∷ []) rules

-- nothing is wrong with the element, and what it says is built
pub record IsReadElement (element : DescriptorElement) : Type 0 where
  pub sound : flaw_of element ≡ None
  pub built : FieldIsBuilt element.piece

-- an element of a descriptor before which all are read
pub record IsReached (pieces : List Piece) (at : ℕ) (element : DescriptorElement) : Type 0 where
  pub records : List (Range ℕ)
  pub are : AreRecords pieces records
  pub stands : StandsAt pieces records at element
  pub first : (i : ℕ) (other : DescriptorElement) → i < at → StandsAt pieces records i other → IsReadElement other

-- the first element with which anything is wrong; it begins at this line
abbrev pub HasFlaw : List Piece → Flaw → ℕ → Type 0
HasFlaw pieces flaw line =
    (at : ℕ) × (element : DescriptorElement) × IsReached pieces at element × (flaw_of element ≡ Some flaw)
    × (line ≡ line_after (text_of (take at pieces)))

-- the type, the definition or the expression that a field gives has a pattern that `regex` may refuse, for another
-- cause than memory
abbrev pub FieldMayBeRefused : Piece → Type 0
FieldMayBeRefused field = elim (special_of (name_of field)) [
  | Some Typed ↦ TypeMayBeRefused (value_of field)
  | Some Typedef ↦ DefinitionMayBeRefused (value_of field)
  | Some Constraint ↦ ExpressionMayBeRefused (value_of field)
  | _ ↦ ⊥
]

-- a field of a descriptor has such a pattern, nothing is wrong with it, and the elements before it are read
abbrev pub SchemaMayBeRefused : List Piece → Type 0
SchemaMayBeRefused pieces =
    (at : ℕ) × (element : DescriptorElement) × IsReached pieces at element × (flaw_of element ≡ None)
    × FieldMayBeRefused element.piece

-- what may be answered for a text of these elements, memory aside
abbrev pub IsSchema : List Piece → Result Described Fault → Type 0
IsSchema pieces (Ok described) = IsDescribed pieces described
IsSchema pieces (Err (BadDescriptor line)) = HasFlaw pieces bad line
IsSchema pieces (Err (Unsupported line)) = HasFlaw pieces unsupported line
IsSchema pieces (Err BadPattern) = SchemaMayBeRefused pieces
IsSchema pieces (Err _) = ⊥

-- the same answer, up to patterns that give the same matches
abbrev pub AreSameSchemas : Result Described Fault → Result Described Fault → Type 0
AreSameSchemas (Ok one) (Ok other) = (one.sets ≡ other.sets) × AllZip AreSameRules one.rules other.rules
AreSameSchemas (Ok one) (Err fault) = ⊥
AreSameSchemas (Err fault) (Ok other) = ⊥
AreSameSchemas (Err fault) (Err other) = fault ≡ other

-- a text has one schema; only where `regex` may refuse a pattern, that refusal may stand instead of the other answer
abbrev pub OneSchema : Type 0
OneSchema = (pieces : List Piece) (one other : Result Described Fault) → IsSchema pieces one → IsSchema pieces other
    → (one ≢ Err BadPattern) → (other ≢ Err BadPattern) → AreSameSchemas one other
