use Rattle.std.proofs.Common.{◌≡◌, ◌++◌, length}
use Rattle.std.specs.Prelude.{flat_map}
use Rattle.rec_diff.specs.Comparing.{places_of, only, landmark, landmarks}
use Rattle.rec_diff.specs.Lines.{lines}
use Rattle.rec_diff.proofs.comparing.landmarks.landmarks_between.Given as goal

abbrev pub invariant-loop-line : goal.invariant-loop-line
invariant-loop-line l =
    l.marks.items
    ++ flat_map (λ line. landmark (only (places_of line 0 (lines l.old))) (only (places_of line 0 (lines l.new)))) (lines l.rest)
    ≡ landmarks l.old l.new

abbrev pub decreases-loop-line : goal.decreases-loop-line
decreases-loop-line l = length l.rest
