-- A text has one schema.
use Rattle.std.proofs.Common.{◌≡◌, ◌≢◌, ◌∙◌, ℕ, ◌<◌, List, [], ◌∷◌, take, Option, Some, None, Result, Ok, Err, refl, ap, sym, subst, inl, inr, arith}
use Rattle.std.proofs.lemmas.Bool.{cases_lt}
use Rattle.std.specs.List.{AllZip}
use Rattle.std.specs.declared.ops.Range.{Range}
use Rattle.regex.specs.Patterns.{Re}
use Rattle.rec_text.specs.declared.fault.Fault.{Fault}
use Rattle.rec_text.specs.declared.fault.Fault.TheVariants.{BadDescriptor, Unsupported, BadPattern}
use Rattle.rec_text.specs.Elements.{Piece, text_of}
use Rattle.rec_text.specs.Reading.{line_after}
use Rattle.rec_text.specs.Records.{AreRecords, record_at}
use Rattle.rec_text.proofs.lemmas.records.RecordLemmas.{OneListOfRecords-holds}
use Rattle.rec_sex.specs.Expressions.{IsExpression, AreSame}
use Rattle.rec_sex.proofs.lemmas.syntax.UniqueLemmas.{same_expression, same_pattern}
use Rattle.rec_check.specs.declared.set.Set_.{Set_}
use Rattle.rec_check.specs.Descriptors.{DescriptorElement, Flaw, StandsAt, bad, unsupported, flaw_of, types_of}
use Rattle.rec_check.specs.proving.Flaws.{flaw_at}
use Rattle.rec_check.specs.Rules.{Rules, no_rules, AreRules, AreSameRules, AreSameDefinitions, AreSameTypes, AreSameTypings}
use Rattle.rec_check.specs.Schemas.{Described, IsDescribed, IsReached, IsRuled, IsSchema, HasFlaw, AreSameSchemas, OneSchema}
use Rattle.rec_check.specs.Sets.{AreSets}
use Rattle.rec_check.specs.Types.{FieldType, integer, range, line as one_line, size, truth, one_of, matching, unchecked, Definition, Typing, Written, WrittenDefinition, IsDefinition, IsTyping}
use Rattle.rec_check.specs.Types.{IsBuilt, definition_of, typing_of}
use Rattle.rec_check.proofs.lemmas.descriptors.StandsLemmas.{flaw_at-stands}
use Rattle.rec_check.proofs.lemmas.SetLemmas.{one_list_of_sets}

-- ---- one list of records and sets

same_records : (pieces : List Piece) (records others : List (Range ℕ)) → AreRecords pieces records → AreRecords pieces others → records ≡ others
same_records pieces records others are too = OneListOfRecords-holds.records pieces records others are too

-- ---- one reading of a field

-- what two relations give of the same values is the same
AllZip-same : {X Y : Type 0} (R : X → Y → Type 0) (S : Y → Y → Type 0) → ((x : X) (y z : Y) → R x y → R x z → S y z)
    → (xs : List X) (ys zs : List Y) → AllZip R xs ys → AllZip R xs zs → AllZip S ys zs
AllZip-same R S same [] [] [] all too = tt
AllZip-same R S same [] [] (z ∷ zs) all too = absurd too
AllZip-same R S same [] (y ∷ ys) zs all too = absurd all
AllZip-same R S same (x ∷ xs) [] zs all too = absurd all
AllZip-same R S same (x ∷ xs) (y ∷ ys) [] all too = absurd too
AllZip-same R S same (x ∷ xs) (y ∷ ys) (z ∷ zs) all too = (same x y z all.0 too.0, AllZip-same R S same xs ys zs all.1 too.1)

-- types that have no pattern
same_plain : (plain one other : FieldType Re) → AreSameTypes plain plain → one ≡ plain → other ≡ plain → AreSameTypes one other
same_plain plain one other same is too = subst (λ t. AreSameTypes t other) (sym is) (subst (AreSameTypes plain) (sym too) same)

-- types that are built of one text
same_built : (written : FieldType (List ℕ)) (one other : FieldType Re) → IsBuilt written one → IsBuilt written other → AreSameTypes one other
same_built (matching text) (matching pattern) (matching second) built too = same_pattern text pattern second built too
same_built (matching text) (matching pattern) other built too = absurd too
same_built (matching text) one other built too = absurd built
same_built integer one other built too = same_plain integer one other refl built too
same_built (range least greatest) one other built too = same_plain (range least greatest) one other refl built too
same_built one_line one other built too = same_plain one_line one other refl built too
same_built (size most) one other built too = same_plain (size most) one other refl built too
same_built truth one other built too = same_plain truth one other refl built too
same_built (one_of items) one other built too = same_plain (one_of items) one other refl built too
same_built unchecked one other built too = same_plain unchecked one other refl built too

same_parts : (value : List ℕ) (one other : Written) → typing_of value ≡ Some one → typing_of value ≡ Some other
    → (one.names ≡ other.names) × (one.kind ≡ other.kind) × (other.value_type ≡ one.value_type)
same_parts value one other is too =
    let both : Some one ≡ Some other = sym is ∙ too in
    let same : one ≡ other = cc in
    (ap (λ typing. typing.names) same, ap (λ typing. typing.kind) same, ap (λ typing. typing.value_type) (sym same))

same_typing : (value : List ℕ) (one other : Typing) → IsTyping value one → IsTyping value other → AreSameTypings one other
same_typing value one other (written, is, built) (more, too, built_too) =
    let same = same_parts value (record { names = one.names; kind = one.kind; value_type = written }) (record { names = other.names; kind = other.kind; value_type = more }) is too in
    record { names = same.0; kind = same.1; value_type = same_built written one.value_type other.value_type built (subst (λ w. IsBuilt w other.value_type) same.2 built_too) }

same_parts_defined : (value : List ℕ) (one other : WrittenDefinition) → definition_of value ≡ Some one → definition_of value ≡ Some other
    → (one.name ≡ other.name) × (one.kind ≡ other.kind) × (other.value_type ≡ one.value_type)
same_parts_defined value one other is too =
    let both : Some one ≡ Some other = sym is ∙ too in
    let same : one ≡ other = cc in
    (ap (λ definition. definition.name) same, ap (λ definition. definition.kind) same, ap (λ definition. definition.value_type) (sym same))

same_definition : (value : List ℕ) (one other : Definition) → IsDefinition value one → IsDefinition value other → AreSameDefinitions one other
same_definition value one other (written, is, built) (more, too, built_too) =
    let same = same_parts_defined value (record { name = one.name; kind = one.kind; value_type = written }) (record { name = other.name; kind = other.kind; value_type = more }) is too in
    record { name = same.0; kind = same.1; value_type = same_built written one.value_type other.value_type built (subst (λ w. IsBuilt w other.value_type) same.2 built_too) }

-- ---- one list of rules

same_rules : (fields : List Piece) (one other : Rules) → AreRules fields one → AreRules fields other → AreSameRules one other
same_rules fields one other are too = record {
  key = are.key ∙ sym too.key;
  mandatory = are.mandatory ∙ sym too.mandatory;
  prohibited = are.prohibited ∙ sym too.prohibited;
  unique = are.unique ∙ sym too.unique;
  singular = are.singular ∙ sym too.singular;
  allowed = are.allowed ∙ sym too.allowed;
  automatic = are.automatic ∙ sym too.automatic;
  types = AllZip-same IsTyping AreSameTypings same_typing _ one.types other.types are.types too.types;
  definitions = AllZip-same IsDefinition AreSameDefinitions same_definition _ one.definitions other.definitions are.definitions too.definitions;
  size = are.size ∙ sym too.size;
  constraints = AllZip-same IsExpression AreSame same_expression _ one.constraints other.constraints are.constraints too.constraints;
}

same_as_none : (one other : Rules) → one ≡ no_rules → other ≡ no_rules → AreSameRules one other
same_as_none one other is too =
    let none : AreSameRules no_rules no_rules = record {
      key = refl;
      mandatory = refl;
      prohibited = refl;
      unique = refl;
      singular = refl;
      allowed = refl;
      automatic = refl;
      types = tt;
      definitions = tt;
      size = refl;
      constraints = tt;
    } in
    subst (λ r. AreSameRules r other) (sym is) (subst (AreSameRules no_rules) (sym too) none)

same_ruled_by : (pieces : List Piece) (records : List (Range ℕ)) (head : Option ℕ) (one other : Rules)
    → elim head as (λ h. Type 0) [ None ↦ one ≡ no_rules | Some at ↦ AreRules (record_at pieces records at) one ]
    → elim head as (λ h. Type 0) [ None ↦ other ≡ no_rules | Some at ↦ AreRules (record_at pieces records at) other ] → AreSameRules one other
same_ruled_by pieces records None one other is too = same_as_none one other is too
same_ruled_by pieces records (Some at) one other are too = same_rules (record_at pieces records at) one other are too

same_ruled : (pieces : List Piece) (records : List (Range ℕ)) (s : Set_) (one other : Rules) → IsRuled pieces records s one → IsRuled pieces records s other → AreSameRules one other
same_ruled pieces records s one other is too = same_ruled_by pieces records s.head one other is too

-- ---- one schema

abbrev refusal : Flaw → ℕ → Fault
refusal bad line = BadDescriptor line
refusal unsupported line = Unsupported line

-- where nothing is wrong no element is the first that is faulty
no_flaw : (pieces : List Piece) (described : Described) (flaw : Flaw) (line : ℕ) → IsDescribed pieces described → HasFlaw pieces flaw line → ⊥
no_flaw pieces described flaw line is (at, element, reached, met, number) =
    let same = same_records pieces reached.records is.records reached.are is.are in
    let none : None ≡ Some flaw = sym (is.sound at element (subst (λ rs. StandsAt pieces rs at element) same reached.stands)) ∙ met in
    cc

same_schema : (pieces : List Piece) (one other : Described) → IsDescribed pieces one → IsDescribed pieces other → AreSameSchemas (Ok one) (Ok other)
same_schema pieces one other is too =
    let records : is.records ≡ too.records = same_records pieces is.records too.records is.are too.are in
    let moved : AreSets (types_of pieces too.records) one.sets = subst (λ rs. AreSets (types_of pieces rs) one.sets) records is.sets in
    let sets : one.sets ≡ other.sets = one_list_of_sets (types_of pieces too.records) one.sets other.sets moved too.sets in
    let P : List (Range ℕ) → Type 0 = λ rs. AllZip (IsRuled pieces rs) one.sets one.rules in
    let Q : List Set_ → Type 0 = λ ss. AllZip (IsRuled pieces too.records) ss one.rules in
    (sets, AllZip-same (IsRuled pieces too.records) AreSameRules (same_ruled pieces too.records) other.sets one.rules other.rules (subst Q sets (subst P records is.rules)) too.rules)

-- no faulty element stands before the first one
not_before : (pieces : List Piece) (flaw : Flaw) (at later : ℕ) (element other : DescriptorElement) → IsReached pieces at element → IsReached pieces later other
    → flaw_of element ≡ Some flaw → at < later → ⊥
not_before pieces flaw at later element other one two met before =
    let same = same_records pieces one.records two.records one.are two.are in
    let none : None ≡ Some flaw = sym (two.first at element before (subst (λ rs. StandsAt pieces rs at element) same one.stands)).sound ∙ met in
    cc

same_flaw : (pieces : List Piece) (flaw other : Flaw) (line number : ℕ) → HasFlaw pieces flaw line → HasFlaw pieces other number → refusal flaw line ≡ refusal other number
same_flaw pieces flaw other line number (at, element, one, met, line_is) (later, second, two, met_too, number_is) =
    let same = same_records pieces one.records two.records one.are two.are in
    let place : at ≡ later = elim (cases_lt at later) [
      | inl before ↦ absurd (not_before pieces flaw at later element second one two met before)
      | inr from ↦ elim (cases_lt later at) [
        | inl following ↦ absurd (not_before pieces other later at second element two one met_too following)
        | inr to ↦ omega arith
      ]
    ] in
    let both : Some flaw ≡ Some other =
    sym met ∙ sym (flaw_at-stands pieces one.records at element one.are one.stands) ∙ ap (flaw_at pieces one.records) place ∙ ap (λ rs. flaw_at pieces rs later) same
    ∙ flaw_at-stands pieces two.records later second two.are two.stands ∙ met_too in
    let flaws : flaw ≡ other = cc in
    let lines : line ≡ number = line_is ∙ ap (λ n. line_after (text_of (take n pieces))) place ∙ sym number_is in
    ap (λ f. refusal f line) flaws ∙ ap (refusal other) lines

one_schema-ok : (pieces : List Piece) (described : Described) (other : Result Described Fault) → IsDescribed pieces described → IsSchema pieces other → (other ≢ Err BadPattern)
    → AreSameSchemas (Ok described) other
one_schema-ok pieces described (Ok other) is too built = same_schema pieces described other is too
one_schema-ok pieces described (Err (BadDescriptor line)) is too built = absurd (no_flaw pieces described bad line is too)
one_schema-ok pieces described (Err (Unsupported line)) is too built = absurd (no_flaw pieces described unsupported line is too)
one_schema-ok pieces described (Err BadPattern) is too built = absurd (built refl)
one_schema-ok pieces described (Err fault) is too built = absurd too

one_schema-err : (pieces : List Piece) (flaw : Flaw) (line : ℕ) (other : Result Described Fault) → HasFlaw pieces flaw line → IsSchema pieces other → (other ≢ Err BadPattern)
    → AreSameSchemas (Err (refusal flaw line)) other
one_schema-err pieces flaw line (Ok other) has too built = absurd (no_flaw pieces other flaw line too has)
one_schema-err pieces flaw line (Err (BadDescriptor number)) has too built = same_flaw pieces flaw bad line number has too
one_schema-err pieces flaw line (Err (Unsupported number)) has too built = same_flaw pieces flaw unsupported line number has too
one_schema-err pieces flaw line (Err BadPattern) has too built = absurd (built refl)
one_schema-err pieces flaw line (Err fault) has too built = absurd too

pub one_schema : OneSchema
one_schema pieces (Ok described) other is too built built_too = one_schema-ok pieces described other is too built_too
one_schema pieces (Err (BadDescriptor line)) other is too built built_too = one_schema-err pieces bad line other is too built_too
one_schema pieces (Err (Unsupported line)) other is too built built_too = one_schema-err pieces unsupported line other is too built_too
one_schema pieces (Err BadPattern) other is too built built_too = absurd (built refl)
one_schema pieces (Err fault) other is too built built_too = absurd is
