use Rattle.std.proofs.Common.{◌≡◌, take}
use Rattle.rec_text.specs.Places.{pieces_of}
use Rattle.rec_edit.specs.Wording.{pairs_of}
use Rattle.rec_edit.proofs.insertion.fresh.pairs_in.Given as goal

abbrev pub invariant-loop-element : goal.invariant-loop-element
invariant-loop-element l = l.pairs.items ≡ pairs_of (pieces_of (take l.element-index l.own))
