-- The rules of a set, ready for one record more.
use Rattle.std.specs.Prelude.{◌≡◌, ℕ, List}
use Rattle.rec_text.specs.Elements.{Piece}
use Rattle.rec_check.specs.declared.checks.checker.Checker.{Checker}
use Rattle.rec_check.specs.declared.checks.occurrence_rule.OccurrenceRule.{OccurrenceRule}
use Rattle.rec_check.specs.declared.checks.occurrence_rule.OccurrenceRule.TheVariants.{Present, Absent, Single}
use Rattle.rec_check.specs.declared.checks.occurrence_rule.OccurrenceCheck.{OccurrenceCheck}
use Rattle.rec_check.specs.proving.Constraints.{terms_in}
use Rattle.rec_check.specs.proving.Keys.{IsKeyAfter}
use Rattle.rec_check.specs.proving.Names.{allows}
use Rattle.rec_check.specs.Rules.{Rules, field_type}
use Rattle.rec_check.specs.proving.Singulars.{IsSingularAfter}
use Rattle.rec_check.specs.proving.Tests.{type_in}
use Rattle.rec_check.specs.Violations.{is_allowed}
use Rattle.rec_check.specs.Words.{distinct}

abbrev pub IsOccurrenceCheck : OccurrenceRule → List (List ℕ) → OccurrenceCheck → Type 0
IsOccurrenceCheck rule names check = (check.rule ≡ rule) × (check.names ≡ distinct names)

-- these are the rules, and these records came before
pub record IsReady (rules : Rules) (earlier : List (List Piece)) (checker : Checker) : Type 0 where
  pub key : checker.key.name.now ≡ rules.key
  pub after : IsKeyAfter checker.key earlier
  pub mandatory : IsOccurrenceCheck Present rules.mandatory checker.mandatory
  pub prohibited : IsOccurrenceCheck Absent rules.prohibited checker.prohibited
  pub unique : IsOccurrenceCheck Single rules.unique checker.unique
  pub singular : IsSingularAfter rules.singular earlier checker.singular
  pub allowed : (name : List ℕ) → allows checker.allowed name ≡ is_allowed rules name
  pub types : (name : List ℕ) → type_in checker.types name ≡ field_type rules name
  pub constraints : terms_in checker.constraints ≡ rules.constraints
