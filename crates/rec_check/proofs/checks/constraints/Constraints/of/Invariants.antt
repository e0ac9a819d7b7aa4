use Rattle.std.proofs.Common.{◌≡◌, map, take}
use Rattle.rec_sex.specs.Expressions.{term_of}
use Rattle.rec_sex.specs.Searching.{searched}
use Rattle.rec_check.proofs.checks.constraints.Constraints.of.Given as goal

abbrev pub invariant-loop-constraint : goal.invariant-loop-constraint
invariant-loop-constraint l = map searched l.searches.items ≡ map term_of (take l.constraint-index l.constraints)
