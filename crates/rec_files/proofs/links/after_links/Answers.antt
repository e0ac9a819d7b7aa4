use Rattle.std.specs.Prelude.{option_map, string_bytes}
use Rattle.std.proofs.Common.{◌≡◌, ◌∙◌, ap, Some, None}
use Rattle.rec_disk.proofs.lemmas.Moments.{told_so}
use Rattle.rec_files.specs.Paths.{end_of}
use Rattle.rec_files.proofs.lemmas.Links.{looked_on, none_left, led_to}
use Rattle.rec_files.proofs.links.after_links.Goals as goal

pub returns-in-None-clause-last : goal.returns-in-None-clause-last
returns-in-None-clause-last g c =
    looked_on g.D.Disk.link 40 c.loop.counter (string_bytes c.loop.path) (end_of g.D.Disk.link 40 c.args.path.now) _ c.as_str.result.now (option_map string_bytes c.in_ok-next.field-0) None _
    c.loop-test.true c.as_str.ensures.value (ap (option_map string_bytes) c.in-None.is) c.loop.invariant.same_story c.loop.invariant.left c.in_ok-next.ensures.next

pub returns-in-None-clause-led : goal.returns-in-None-clause-led
returns-in-None-clause-led g c =
    told_so (λ s. end_of g.D.Disk.link 40 c.args.path.now ≡ Some (string_bytes c.loop.path)) _ _
    (λ s is. led_to g.D.Disk g.met.D.Disk.led 40 c.args.path.now (string_bytes c.loop.path) is) (returns-in-None-clause-last g c)

pub loop-preserved : goal.loop-preserved
loop-preserved g c = record {
  same_story = c.in_ok-next.ensures.same ∙ c.loop.invariant.same_story;
  still_works = λ works. (c.in_ok-next.ensures.succeeds (c.loop.invariant.still_works works)).0;
  left = looked_on g.D.Disk.link 40 c.loop.counter (string_bytes c.loop.path) (end_of g.D.Disk.link 40 c.args.path.now) _ c.as_str.result.now (option_map string_bytes c.in_ok-next.field-0)
      (Some (string_bytes c.in-Some.next)) _ c.loop-test.true c.as_str.ensures.value (ap (option_map string_bytes) c.in-Some.is)
      c.loop.invariant.same_story c.loop.invariant.left c.in_ok-next.ensures.next;
}

pub returns-clause-succeeds : goal.returns-clause-succeeds
returns-clause-succeeds g c = λ works. (
  c.loop.invariant.still_works works,
  λ some. absurd (none_left g.D.Disk.link 40 c.loop.counter (string_bytes c.loop.path) (end_of g.D.Disk.link 40 c.args.path.now) _ c.loop-test.false c.loop.invariant.left some),
)
