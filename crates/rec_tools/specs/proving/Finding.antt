-- What is found in the fields of a record, or that nothing is.
use Rattle.std.specs.Prelude.{ℕ, List, Result, Ok, Err}
use Rattle.std.specs.declared.ops.Range.{Range}
use Rattle.rec_text.specs.declared.fault.Fault.{Fault}
use Rattle.rec_text.specs.declared.fault.Fault.TheVariants.{BadLine, OpenLine, BadBatch}
use Rattle.rec_text.specs.Elements.{Piece}
use Rattle.rec_text.specs.Records.{AreRecords}
use Rattle.rec_text.specs.declared.or_memory.OrMemory.{OrMemory}
use Rattle.rec_text.specs.declared.or_memory.OrMemory.TheVariants.{Refused, OutOfMemory}
use Rattle.rec_tools.specs.declared.request.EditRequest.{EditRequest}
use Rattle.rec_tools.specs.declared.batches.NotAnEdit.{NotAnEdit}
use Rattle.rec_tools.specs.Batches.{AreEditsOf}

-- what is found is so; that this is no edit is answered only where nothing is so
abbrev pub FindsPart : {X : Type 0} → (X → Type 0) → Result X (OrMemory NotAnEdit) → Type 0
FindsPart P (Ok found) = P found
FindsPart {X} P (Err (Refused no_edit)) = (x : X) → P x → ⊥
FindsPart P (Err OutOfMemory) = Unit {0}

-- the fault of a batch that can't be read, by that of reading it
abbrev pub unread_by : Fault → Fault
unread_by (BadLine line) = BadBatch line
unread_by (OpenLine line) = BadBatch line
unread_by fault = fault

-- the edits of a text of these elements, or the line of the first record that is none
abbrev pub AreEditsIn : List Piece → Result (List EditRequest) Fault → Type 0
AreEditsIn pieces answer = (records : List (Range ℕ)) × AreRecords pieces records × AreEditsOf pieces records answer
