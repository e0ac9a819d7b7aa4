use Rattle.std.proofs.Common.{◌≡◌, ◌++◌, drop}
use Rattle.rec_text.specs.Places.{pieces_of}
use Rattle.rec_sex.specs.Meaning.{values_of}
use Rattle.rec_tools.proofs.batches.values_of.Given as goal

abbrev pub invariant-loop-element : goal.invariant-loop-element
invariant-loop-element l =
    l.values.items ++ values_of l.name (pieces_of (drop l.element-index l.own)) ≡ values_of l.name (pieces_of l.own)
