-- The rules of a set, ready to be tried on one record after another.
use Rattle.std.specs.Prelude.{◌≡◌, ℕ, ◌==◌, Bool, nat_le, List, [], ◌++◌, filter}
use Rattle.std.specs.declared.ops.Range.{Range}
use Rattle.rec_text.specs.declared.violations.Rule.{Rule}
use Rattle.rec_text.specs.declared.violations.Rule.TheVariants.{Mandatory, Prohibit, Unique}
use Rattle.rec_text.specs.declared.violations.Violation.{Violation}
use Rattle.rec_text.specs.Elements.{Piece}
use Rattle.rec_sex.specs.Grammar.{Term}
use Rattle.rec_check.specs.declared.checks.occurrence_rule.OccurrenceRule.{OccurrenceRule}
use Rattle.rec_check.specs.declared.checks.occurrence_rule.OccurrenceRule.TheVariants.{Present, Absent, Single}
use Rattle.rec_check.specs.declared.set.Set_.{Set_}
use Rattle.rec_check.specs.Rules.{Rules}
use Rattle.rec_check.specs.Violations.{AreOfRecord, AreOfRecords, AreOfSet, AreUnselected, occurrences, violations_of}

-- ---- how often a name occurs

abbrev pub rule_of : OccurrenceRule → Rule
rule_of Present = Mandatory
rule_of Absent = Prohibit
rule_of Single = Unique

-- n fields of a name are too few, or too many
abbrev pub breaks_occurrence_rule : OccurrenceRule → ℕ → Bool
breaks_occurrence_rule Present count = count == 0
breaks_occurrence_rule Absent count = nat_le 1 count
breaks_occurrence_rule Single count = nat_le 2 count

-- those of the names that break the rule in a record
abbrev pub breaking : OccurrenceRule → List (List ℕ) → List Piece → List (List ℕ)
breaking rule names fields = filter (λ name. breaks_occurrence_rule rule (occurrences fields name)) names

abbrev pub occurrence_violations : OccurrenceRule → List (List ℕ) → ℕ → List Piece → List Violation
occurrence_violations rule names line fields = violations_of line (rule_of rule) (breaking rule names fields)

-- ---- constraints

-- the violations of these constraints are added to others
pub record AddsUnselected (line : ℕ) (terms : List Term) (fields : List Piece) (old new : List Violation) : Type 0 where
  pub own : List Violation
  pub are : AreUnselected line 1 terms fields own
  pub joined : new ≡ old ++ own

-- ---- records

-- the violations of a record are added to others
pub record AddsOfRecord (pieces : List Piece) (rules : Rules) (earlier : List (List Piece)) (own_range : Range ℕ)
    (old new : List Violation) : Type 0 where
  pub own : List Violation
  pub are : AreOfRecord pieces rules earlier own_range own
  pub joined : new ≡ old ++ own

-- those of a set's records
pub record AddsOfRecords (pieces : List Piece) (rules : Rules) (records : List (Range ℕ)) (old new : List Violation)
    : Type 0 where
  pub own : List Violation
  pub are : AreOfRecords pieces rules [] records own
  pub joined : new ≡ old ++ own

-- those of a set
pub record AddsOfSet (pieces : List Piece) (records : List (Range ℕ)) (s : Set_) (rules : Rules)
    (old new : List Violation) : Type 0 where
  pub own : List Violation
  pub are : AreOfSet pieces records s rules own
  pub joined : new ≡ old ++ own
