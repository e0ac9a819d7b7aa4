use Rattle.rec_check.specs.proving.Reading.{drafted}
use Rattle.rec_check.specs.proving.Steps.{HaveTypes}
use Rattle.rec_check.proofs.lemmas.descriptors.SchemaLemmas.{IsSchemaUpTo}
use Rattle.rec_check.proofs.schema.Schema.read.Given as goal

abbrev pub invariant-loop-index : goal.invariant-loop-index
invariant-loop-index l = record {
  can : (goal.iterator-loop-index).can_next l.index-iterator;
  finite : (goal.iterator-loop-index).is_finite l.index-iterator;
  so_far : IsSchemaUpTo l.database l.index-iterator.count l.index-iterator.iter (drafted l.draft);
  typed : HaveTypes l.draft.sets.items l.draft.types;
}
