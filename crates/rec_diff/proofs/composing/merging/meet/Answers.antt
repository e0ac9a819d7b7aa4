use Rattle.std.proofs.Common.{◌∙◌, ◌++◌, ap, sym, arith}
use Rattle.rec_diff.specs.Composing.{then_others}
use Rattle.rec_diff.specs.proving.Runs.{deeds_in, run_deeds, deeds_ahead}
use Rattle.rec_diff.proofs.lemmas.composing.RunLemmas.{removing, adding, keeps_or_adds}
use Rattle.rec_diff.proofs.composing.merging.meet.Goals as goal

pub returns-in-Removed : goal.returns-in-Removed
returns-in-Removed c = record {
  deeds = removing c.args.one.now.head c.in-Removed.field-0.now (ap deeds_in c.in-Removed.is) (run_deeds c.args.one.now.rest.now) (deeds_ahead c.args.other.now)
      ∙ ap (λ d. deeds_in c.args.one.now.head ++ then_others d (deeds_ahead c.args.other.now)) (sym c.after_head.ensures.deeds);
  smaller = omega (arith, c.after_head.ensures.smaller);
}

pub returns-in-Added : goal.returns-in-Added
returns-in-Added c = record {
  deeds = ap (λ d. then_others (deeds_ahead c.args.one.now) (d ++ run_deeds c.args.other.now.rest.now)) (ap deeds_in c.in-Added.is)
      ∙ adding c.args.one.now.head (keeps_or_adds c.args.one.now.head c.in_default.not-Removed) c.requires.one c.in-Added.field-0.now
      (run_deeds c.args.one.now.rest.now) (run_deeds c.args.other.now.rest.now)
      ∙ ap (λ d. d ++ then_others (deeds_ahead c.args.one.now) (run_deeds c.args.other.now.rest.now)) (sym (ap deeds_in c.in-Added.is))
      ∙ ap (λ d. deeds_in c.args.other.now.head ++ then_others (deeds_ahead c.args.one.now) d) (sym c.after_head-in-Added.ensures.deeds);
  smaller = omega (arith, c.after_head-in-Added.ensures.smaller);
}
