use Rattle.rec_tools.specs.proving.Courses.{contents}
use Rattle.rec_tools.proofs.lemmas.runs.ThroughLemmas.{left_to_go}
use Rattle.rec_tools.proofs.lemmas.runs.DryLemmas.{DrySoFar}
use Rattle.rec_tools.proofs.dry.go_dry.Given as goal

-- each move so far led on
abbrev pub invariant-loop-alloc : goal.invariant-loop-alloc
invariant-loop-alloc g l =
    DrySoFar g.S.Sink.contents g.S.Sink.failure_count l.style l.direction l.number (contents l.fn.file l.fn.journal) (contents l.file l.journal) l.fn.out l.out l.first l.last

abbrev pub decreases-loop-alloc : goal.decreases-loop-alloc
decreases-loop-alloc g l = left_to_go l.direction l.number l.last
