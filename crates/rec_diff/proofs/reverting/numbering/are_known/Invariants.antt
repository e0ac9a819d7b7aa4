use Rattle.std.proofs.Common.{◌≡◌}
use Rattle.std.specs.Slice.Iter.{iter_rest}
use Rattle.std.specs.Iterator.Adapters.{zip_first, zip_second}
use Rattle.rec_diff.specs.proving.Numbering.{all_known}
use Rattle.rec_diff.proofs.reverting.numbering.are_known.Given as goal

-- those so far are known
abbrev pub invariant-loop-number : goal.invariant-loop-number
invariant-loop-number l = all_known (iter_rest (zip_first l.number-iterator)) (iter_rest (zip_second l.number-iterator)) ≡ all_known l.one l.other
