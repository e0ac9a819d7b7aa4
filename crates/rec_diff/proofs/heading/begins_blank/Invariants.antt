use Rattle.std.proofs.Common.{◌≡◌, drop}
use Rattle.rec_diff.specs.Diff.{begins_blank}
use Rattle.rec_diff.proofs.heading.begins_blank.Given as goal

abbrev pub invariant-loop-byte : goal.invariant-loop-byte
invariant-loop-byte l = begins_blank (drop l.byte-index l.text) ≡ begins_blank l.text
