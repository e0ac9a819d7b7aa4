use Rattle.std.proofs.Common.{map}
use Rattle.rec_check.specs.Stored.{definition_stored}
use Rattle.rec_check.proofs.lemmas.field_types.ResolvedLemmas.{AreRightSoFar}
use Rattle.rec_check.proofs.field_types.resolution.first_meanings.Given as goal

abbrev pub invariant-loop-definition : goal.invariant-loop-definition
invariant-loop-definition l = AreRightSoFar (map definition_stored l.definitions) l.definition-index l.meanings.items
