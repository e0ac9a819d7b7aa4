use Rattle.std.proofs.Common.{◌∙◌, sym, arith, rules}
use Rattle.rec_tools.specs.proving.Courses.{contents}
use Rattle.rec_tools.proofs.lemmas.runs.ThroughLemmas.{less_to_go}
use Rattle.rec_tools.proofs.lemmas.runs.DryLemmas.{none_dry, dry_led, dry_ended}
use Rattle.rec_tools.proofs.dry.go_dry.Goals as goal

pub loop-alloc-init : goal.loop-alloc-init
loop-alloc-init g c =
    none_dry g.S.Sink.contents g.S.Sink.failure_count c.args.style.now c.args.direction c.args.number (contents c.args.file.now c.args.journal.now) c.args.out.now

pub loop-alloc-preserved : goal.loop-alloc-preserved
loop-alloc-preserved g c =
    rw (c.or-first.ensures, c.or-last.ensures) (dry_led g.S.Sink.contents g.S.Sink.failure_count c.args.style.now c.args.direction c.args.number
    (contents c.args.file.now c.args.journal.now) (contents c.loop-alloc.file c.loop-alloc.journal) (contents c.preview_once-answer.new.file c.preview_once-answer.new.journal)
    c.args.out.now c.loop-alloc.out c.preview_once-answer.new.out
    c.loop-alloc.first c.loop-alloc.last c.moved_by-moved.result c.preview_once-answer.result
    c.loop-alloc.invariant c.moved_by-moved.ensures.moved c.preview_once-answer.ensures
    (sym c.leads_on-ends.ensures ∙ c.if-ends.false))

pub loop-alloc-smaller : goal.loop-alloc-smaller
loop-alloc-smaller g c =
    rw c.or-last.ensures (less_to_go c.args.direction c.args.number c.loop-alloc.last c.moved_by-moved.result
    (first_of (search rules, omega arith, omega (arith, c.ranges.number.fits))) c.moved_by-moved.ensures.bounded
    (sym c.leads_on-ends.ensures ∙ c.if-ends.false))

pub returns-then-ends : goal.returns-then-ends
returns-then-ends g c =
    rw (c.or-first.ensures, c.or-last.ensures) (dry_ended g.S.Sink.contents g.S.Sink.failure_count c.args.style.now c.args.direction c.args.number
    (contents c.args.file.now c.args.journal.now) (contents c.loop-alloc.file c.loop-alloc.journal) (contents c.preview_once-answer.new.file c.preview_once-answer.new.journal)
    c.args.out.now c.loop-alloc.out c.preview_once-answer.new.out
    c.loop-alloc.first c.loop-alloc.last c.moved_by-moved.result c.preview_once-answer.result
    c.loop-alloc.invariant c.moved_by-moved.ensures.moved c.preview_once-answer.ensures
    (sym c.leads_on-ends.ensures ∙ c.if-ends.true))
