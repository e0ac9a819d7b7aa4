use Rattle.rec_tools.proofs.lemmas.runs.ThroughLemmas.{SoFar, left_to_go}
use Rattle.rec_tools.proofs.through.go_through.Given as goal

-- each move so far led on
abbrev pub invariant-loop-alloc : goal.invariant-loop-alloc
invariant-loop-alloc g l = SoFar g.H.Home.goes l.direction l.number l.fn.home l.home l.first l.last

abbrev pub decreases-loop-alloc : goal.decreases-loop-alloc
decreases-loop-alloc g l = left_to_go l.direction l.number l.last
