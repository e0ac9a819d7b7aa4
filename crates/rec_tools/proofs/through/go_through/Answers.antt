use Rattle.std.proofs.Common.{◌∙◌, sym, arith, rules}
use Rattle.rec_tools.proofs.lemmas.runs.ThroughLemmas.{none_so_far, one_led, one_ended, less_to_go}
use Rattle.rec_tools.proofs.through.go_through.Goals as goal

pub loop-alloc-init : goal.loop-alloc-init
loop-alloc-init g c = none_so_far g.H.Home.goes c.args.direction c.args.number c.args.home.now

pub loop-alloc-preserved : goal.loop-alloc-preserved
loop-alloc-preserved g c =
    rw (c.or-first.ensures, c.or-last.ensures) (one_led g.H.Home.goes c.args.direction c.args.number
    c.args.home.now c.loop-alloc.home c.move_once-answer.new.home
    c.loop-alloc.first c.loop-alloc.last c.moved_by-moved.result c.move_once-answer.result
    c.loop-alloc.invariant c.moved_by-moved.ensures.moved c.move_once-answer.ensures
    (sym c.leads_on-ends.ensures ∙ c.if-ends.false))

pub loop-alloc-smaller : goal.loop-alloc-smaller
loop-alloc-smaller g c =
    rw c.or-last.ensures (less_to_go c.args.direction c.args.number c.loop-alloc.last c.moved_by-moved.result
    (first_of (search rules, omega arith, omega (arith, c.ranges.number.fits))) c.moved_by-moved.ensures.bounded
    (sym c.leads_on-ends.ensures ∙ c.if-ends.false))

pub returns-then-ends : goal.returns-then-ends
returns-then-ends g c =
    rw (c.or-first.ensures, c.or-last.ensures) (one_ended g.H.Home.goes c.args.direction c.args.number
    c.args.home.now c.loop-alloc.home c.move_once-answer.new.home
    c.loop-alloc.first c.loop-alloc.last c.moved_by-moved.result c.move_once-answer.result
    c.loop-alloc.invariant c.moved_by-moved.ensures.moved c.move_once-answer.ensures
    (sym c.leads_on-ends.ensures ∙ c.if-ends.true))
