use Rattle.std.proofs.Common.{◌≡◌, ◌-◌, ◌≤◌, ℕ, drop, length}
use Rattle.rec_diff.specs.proving.Numbering.{number_in}
use Rattle.rec_diff.proofs.reverting.numbering.pass_elements.Given as goal

-- those that were passed begin before the place
abbrev pub invariant-loop-element : goal.invariant-loop-element
invariant-loop-element l = record {
  past : (later size : ℕ) → l.at ≤ later → number_in l.fn.index (drop l.fn.index l.elements) later size ≡ number_in l.next (drop l.next l.elements) later size;
}

abbrev pub decreases-loop-element : goal.decreases-loop-element
decreases-loop-element l = length l.elements - l.next
