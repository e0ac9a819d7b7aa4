use Rattle.std.proofs.Common.{◌≡◌, ◌∙◌, ◌<◌, ap, arith}
use Rattle.rec_diff.specs.proving.Runs.{deeds_in, old_count, reached}
use Rattle.rec_diff.proofs.lemmas.composing.HunkLemmas.{old_count-keeps}
use Rattle.rec_diff.proofs.lemmas.composing.TurningLemmas.{kept_goes_on, kept_reaches, removed_goes_on, removed_reaches, added_goes_on, added_reaches}
use Rattle.rec_diff.proofs.composing.turning.Turning.add.Goals as goal

pub end-requires : goal.end-requires
end-requires c =
    let count : old_count (deeds_in c.args.run.now) ≡ c.in-Kept.count = ap (λ r. old_count (deeds_in r)) c.in-Kept.is ∙ old_count-keeps c.in-Kept.count in
    omega (arith, c.requires)

pub returns-else-count-eq0-clause-deeds : goal.returns-else-count-eq0-clause-deeds
returns-else-count-eq0-clause-deeds c =
    let some : 0 < c.in-Kept.count = omega (arith, c.if-count-eq0.false) in
    kept_goes_on c.end.result c.args.self.now c.end.new.self c.args.run.now c.in-Kept.count c.in-Kept.is some c.end.ensures.hunks c.end.ensures.place c.end.ensures.removed c.end.ensures.added

pub returns-else-count-eq0-clause-place : goal.returns-else-count-eq0-clause-place
returns-else-count-eq0-clause-place c =
    kept_reaches c.end.result c.args.self.now c.end.new.self c.args.run.now c.in-Kept.count c.in-Kept.is c.end.ensures.hunks c.end.ensures.place c.end.ensures.removed c.end.ensures.added

pub returns-in-Removed-clause-deeds : goal.returns-in-Removed-clause-deeds
returns-in-Removed-clause-deeds c =
    removed_goes_on c.extend_from_slice.result c.args.self.now.hunks.items c.args.self.now.at c.args.self.now.removed.items c.extend_from_slice.new.self.items c.args.self.now.added.items
    c.in-Removed.bytes.now (deeds_in c.args.run.now) c.extend_from_slice.ensures.items (ap deeds_in c.in-Removed.is)

pub returns-in-Removed-clause-place : goal.returns-in-Removed-clause-place
returns-in-Removed-clause-place c =
    removed_reaches c.extend_from_slice.result c.args.self.now.at c.args.self.now.removed.items c.extend_from_slice.new.self.items c.in-Removed.bytes.now (deeds_in c.args.run.now)
    c.extend_from_slice.ensures.items (ap deeds_in c.in-Removed.is)

pub returns-in-Added-clause-deeds : goal.returns-in-Added-clause-deeds
returns-in-Added-clause-deeds c =
    added_goes_on c.extend_from_slice-in-Added.result c.args.self.now.hunks.items c.args.self.now.at c.args.self.now.removed.items c.args.self.now.added.items
    c.extend_from_slice-in-Added.new.self.items c.in-Added.bytes.now (deeds_in c.args.run.now) c.extend_from_slice-in-Added.ensures.items (ap deeds_in c.in-Added.is)

pub returns-in-Added-clause-place : goal.returns-in-Added-clause-place
returns-in-Added-clause-place c =
    added_reaches c.extend_from_slice-in-Added.result (reached c.args.self.now) c.in-Added.bytes.now (deeds_in c.args.run.now) (ap deeds_in c.in-Added.is)
