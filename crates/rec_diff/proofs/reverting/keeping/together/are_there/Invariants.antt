use Rattle.std.proofs.Common.{◌≡◌, drop}
use Rattle.rec_diff.specs.proving.Keeping.{all_there}
use Rattle.rec_diff.proofs.reverting.keeping.together.are_there.Given as goal

-- those so far are there
abbrev pub invariant-loop-field : goal.invariant-loop-field
invariant-loop-field l = all_there l.numbers (drop l.field-index l.fields) ≡ all_there l.numbers l.fields
