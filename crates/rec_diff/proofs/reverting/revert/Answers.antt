use Rattle.std.proofs.Common.{arith, subst, sym}
use Rattle.rec_diff.specs.declared.reverting.edits.Edits.{Edits}
use Rattle.rec_diff.specs.proving.Taking.{IsTakenBack}
use Rattle.rec_diff.proofs.lemmas.reverting.TakingLemmas.{nothing_taken, taken_patch, taken_reverts}
use Rattle.rec_diff.proofs.reverting.revert.Goals as goal

pub unreachable-requires : goal.unreachable-requires
unreachable-requires c =
    let edits : Edits = record { steps = c.args.steps; before = c.args.before; after = c.args.after; later = c.args.later; here = c.args.here } in
    let found = c.in-Some.field-0 in
    c.in_default-new.ensures (taken_patch edits found.hunks.items found.woven (rw c.in-Some.is at c.in_ok-hunks.ensures))

pub returns-then-branch-clause-patch : goal.returns-then-branch-clause-patch
returns-then-branch-clause-patch c =
    let edits : Edits = record { steps = c.args.steps; before = c.args.before; after = c.args.after; later = c.args.later; here = c.args.here } in
    let woven = c.in-Some.field-0.woven in
    let taken : IsTakenBack edits c.in-Some-new.patch woven =
    subst (λ hs. IsTakenBack edits hs woven) (sym c.in-Some-new.ensures.1) (rw c.in-Some.is at c.in_ok-hunks.ensures) in
    taken_reverts edits c.in-Some-new.patch woven taken (λ some. c.in_ok-is_kept.ensures.kept c.if-branch.true some taken)

pub returns-clause-patch : goal.returns-clause-patch
returns-clause-patch c =
    let edits : Edits = record { steps = c.args.steps; before = c.args.before; after = c.args.after; later = c.args.later; here = c.args.here } in
    let woven = c.in-Some.field-0.woven in
    let taken : IsTakenBack edits c.in-Some-new.patch woven =
    subst (λ hs. IsTakenBack edits hs woven) (sym c.in-Some-new.ensures.1) (rw c.in-Some.is at c.in_ok-hunks.ensures) in
    nothing_taken edits c.in-Some-new.patch woven taken (omega arith) (omega arith) (c.in_ok-is_kept.ensures.lost c.if-branch.false taken)
