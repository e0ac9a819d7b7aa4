use Rattle.std.proofs.Common.{◌∙◌, drop, ap, rules}
use Rattle.std.proofs.lemmas.List.{take_rest}
use Rattle.std.proofs.lemmas.List.Sorted.{IsPartitionPoint-from_clause}
use Rattle.rec_diff.specs.declared.comparing.landmarks.Line.{Line}
use Rattle.rec_diff.specs.Comparing.{only}
use Rattle.rec_diff.specs.proving.SortedLines.{is_before, places_in}
use Rattle.rec_diff.proofs.lemmas.comparing.LandmarkLemmas.{IsLeft, told_before, is_parted, is_left}
use Rattle.rec_diff.proofs.comparing.landmarks.only_place.Goals as goal
use Rattle.rec_diff.proofs.comparing.landmarks.only_place.Goals.{After-partition_point-at}

left : (c : After-partition_point-at) → IsLeft c.args.text.now c.args.lines.now (drop c.partition_point-at.result c.args.lines.now)
left c =
    is_left c.args.text.now c.args.lines.now c.partition_point-at.result c.requires
    (IsPartitionPoint-from_clause (λ (l : Line). is_before l.text.now c.args.text.now) c.args.lines.now c.partition_point-at.result c.partition_point-at.ensures.partitioned
    (is_parted c.args.text.now c.args.lines.now c.requires) (λ a r q k. search (rules, told_before)))

pub alone-requires-clause-sorted : goal.alone-requires-clause-sorted
alone-requires-clause-sorted c = rw (take_rest c.args.lines.now c.partition_point-at.result) (left (goal.at.alone-requires-clause-sorted c).After-partition_point-at).sorted

pub alone-requires-clause-first : goal.alone-requires-clause-first
alone-requires-clause-first c = rw (take_rest c.args.lines.now c.partition_point-at.result) (left (goal.at.alone-requires-clause-first c).After-partition_point-at).first

pub returns : goal.returns
returns c =
    c.alone.ensures ∙ ap (λ ls. only (places_in c.args.text.now ls)) (take_rest c.args.lines.now c.partition_point-at.result)
    ∙ ap only (left (goal.at.returns c).After-partition_point-at).places
