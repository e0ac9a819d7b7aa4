-- Constraints, ready to be tried on many records.
use Rattle.std.specs.Prelude.{List, map}
use Rattle.rec_sex.specs.Grammar.{Term}
use Rattle.rec_sex.specs.Searching.{searched}
use Rattle.rec_check.specs.declared.checks.constraints.Constraints.{Constraints}

abbrev pub terms_in : Constraints → List Term
terms_in constraints = map searched constraints.searches.items
