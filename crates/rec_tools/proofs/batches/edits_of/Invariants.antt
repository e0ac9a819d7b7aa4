use Rattle.std.proofs.Common.{map, take}
use Rattle.std.specs.List.{AllZip}
use Rattle.rec_text.specs.Places.{pieces_of}
use Rattle.rec_text.specs.Records.{elements_in}
use Rattle.rec_tools.specs.Batches.{AsksFor}
use Rattle.rec_tools.proofs.batches.edits_of.Given as goal

-- the edits of the records so far
abbrev pub invariant-loop-record : goal.invariant-loop-record
invariant-loop-record l = AllZip AsksFor (map (elements_in (pieces_of l.elements)) (take l.record-index l.records)) l.edits.items
