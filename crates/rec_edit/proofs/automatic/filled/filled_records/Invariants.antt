use Rattle.std.proofs.Common.{ℕ, List}
use Rattle.std.specs.declared.ops.Range.{Range}
use Rattle.rec_text.specs.Records.{AreRecords}
use Rattle.rec_check.specs.Stored.{described}
use Rattle.rec_edit.specs.proving.Filling.{filled_of}
use Rattle.rec_edit.proofs.lemmas.automatic.FillLemmas.{AreFilledUpTo}
use Rattle.rec_edit.proofs.automatic.filled.filled_records.Given as goal

abbrev pub invariant-loop-place : goal.invariant-loop-place
invariant-loop-place l = (records : List (Range ℕ)) → AreRecords l.file.pieces records
    → AreFilledUpTo l.file.pieces records (described l.file.schema).sets (described l.file.schema).rules l.place (filled_of l.filled.items)
