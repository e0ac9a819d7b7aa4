use Rattle.std.proofs.Common.{◌≡◌, ◌++◌, length}
use Rattle.rec_check.specs.Words.{words}
use Rattle.rec_check.proofs.descriptors.words.words_of.Given as goal

abbrev pub invariant-loop-word : goal.invariant-loop-word
invariant-loop-word l = l.found.items ++ words l.rest ≡ words l.text

abbrev pub decreases-loop-word : goal.decreases-loop-word
decreases-loop-word l = length (words l.rest)
