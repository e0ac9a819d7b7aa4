use Rattle.std.proofs.Common.{inl, inr, refl, sym}
use Rattle.rec_check.proofs.lemmas.field_types.ResolvedLemmas.{AreAtWork-nil, AreAtWork-more, ArePlacesWithin-nil, ArePlacesWithin-more, StaySettled-more, settled_start, start_settled}
use Rattle.rec_check.proofs.lemmas.field_types.ResolvedLemmas.{count_open-less}
use Rattle.rec_check.proofs.field_types.resolution.follow.Goals as goal

pub loop-next-init : goal.loop-next-init
loop-next-init c = record {
  work = λ definitions are. AreAtWork-nil definitions c.args.meanings.now c.args.passed.now.items c.args.start are c.requires;
  start = inl refl;
  settled = λ place closed. closed;
  within = ArePlacesWithin-nil c.args.meanings.now c.args.passed.now.items c.requires;
}

pub loop-next-preserved : goal.loop-next-preserved
loop-next-preserved c = record {
  work = λ definitions are.
      AreAtWork-more definitions c.loop-next.passed.items c.push.new.self.items c.loop-next.at c.in-Some.next c.loop-next.meanings _ (sym c.in-Some.ensures) c.in_ok-push.ensures.items refl
      (c.loop-next.invariant.work definitions are);
  start = inr (start_settled c.loop-next.meanings _ c.loop-next.at c.in-Some.next (sym c.in-Some.ensures) refl c.args.start c.loop-next.invariant.start);
  settled = StaySettled-more c.loop-next.meanings _ c.loop-next.at c.in-Some.next (sym c.in-Some.ensures) refl c.args.meanings.now c.loop-next.invariant.settled;
  within = ArePlacesWithin-more c.loop-next.meanings _ c.loop-next.at c.in-Some.next
      (sym c.in-Some.ensures) refl c.loop-next.passed.items c.push.new.self.items c.in_ok-push.ensures.items c.loop-next.invariant.within;
}

pub loop-next-smaller : goal.loop-next-smaller
loop-next-smaller c = count_open-less c.loop-next.meanings _ c.loop-next.at c.in-Some.next (sym c.in-Some.ensures) refl

pub returns-clause-end : goal.returns-clause-end
returns-clause-end c = sym c.in_default.ensures

pub returns-clause-start : goal.returns-clause-start
returns-clause-start c = settled_start c.loop-next.meanings c.loop-next.at c.args.start (sym c.in_default.ensures) c.loop-next.invariant.start

pub returns-clause-work : goal.returns-clause-work
returns-clause-work c = c.loop-next.invariant.work
