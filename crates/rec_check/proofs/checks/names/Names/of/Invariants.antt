use Rattle.std.proofs.Common.{◌≡◌, take}
use Rattle.rec_check.specs.Words.{distinct}
use Rattle.rec_check.proofs.checks.names.Names.of.Given as goal

abbrev pub invariant-loop-name : goal.invariant-loop-name
invariant-loop-name l = l.kept ≡ distinct (take l.name-index l.names)
