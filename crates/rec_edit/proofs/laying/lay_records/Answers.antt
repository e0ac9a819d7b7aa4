use Rattle.std.proofs.Common.{◌≡◌, ◌∙◌, ◌+◌, ◌^◌, ◌<◌, ℕ, false, get_or, drop, length, cond, refl, ap, sym, subst, arith}
use Rattle.std.specs.declared.ops.Range.{Range}
use Rattle.std.proofs.lemmas.List.{drop_more}
use Rattle.rec_text.specs.Elements.{text_of}
use Rattle.rec_edit.specs.Blocks.{changed_from, blocks_of}
use Rattle.rec_edit.specs.proving.Laying.{IsPlace, span_at, is_marked}
use Rattle.rec_edit.proofs.lemmas.blocks.LayingLemmas.{place_of, fits_here, record_laid}
use Rattle.rec_edit.proofs.laying.lay_records.Goals.{then-branch, else-branch}
use Rattle.rec_edit.proofs.laying.lay_records.Goals as goal

pub lay_record-requires-clause-place : goal.lay_record-requires-clause-place
lay_record-requires-clause-place g c =
    let d : Range ℕ = record { start = 0; end = 0 } in
    let records = c.args.records.now in
    let i = c.loop-index.index in
    subst (IsPlace c.args.database.now (get_or records i d)) (sym c.start_at-end.ensures)
    (place_of c.args.database.now records i (get_or records i d) (drop (i + 1) records) c.requires.ranges (drop_more records i d c.loop-index-test.true))

pub lay_record-requires-clause-fits : goal.lay_record-requires-clause-fits
lay_record-requires-clause-fits g c =
    let d : Range ℕ = record { start = 0; end = 0 } in
    let records = c.args.records.now in
    let i = c.loop-index.index in
    let fits =
    fits_here c.args.database.now (is_marked c.args.marks.now) (g.C.Change.made c.args.change.now) c.requires.takes records c.requires.whole c.requires.ranges i (get_or records i d)
    (drop (i + 1) records)
    (drop_more records i d c.loop-index-test.true) c.loop-index.draft c.loop-index.invariant.laid in
    subst (λ end. c.loop-index.draft.at + length (text_of (span_at c.args.database.now (get_or records i d) end)) < 2 ^ 64) (sym c.start_at-end.ensures) (omega (arith, fits, c.requires.few))

pub loop-index-preserved : goal.loop-index-preserved
loop-index-preserved g c =
    let d : Range ℕ = record { start = 0; end = 0 } in
    let records = c.args.records.now in
    let i = c.loop-index.index in
    let count = c.loop-index.changed in
    let changed = c.in_ok-lay_record.field-0 in
    let both =
    record_laid c.args.database.now (is_marked c.args.marks.now) (g.C.Change.made c.args.change.now) c.requires.takes records c.requires.whole c.requires.ranges i (get_or records i d)
    (drop (i + 1) records)
    (drop_more records i d c.loop-index-test.true) (get_or c.args.marks.now i false) c.start_at-end.result refl c.start_at-end.ensures c.loop-index.draft c.lay_record.new.draft changed count _
    c.loop-index.invariant.laid c.in_ok-lay_record.ensures.laid c.in_ok-lay_record.ensures.changed refl c.loop-index.invariant.counted in
    let rest : ℕ = changed_from (is_marked c.args.marks.now) (g.C.Change.made c.args.change.now) (i + 1) (blocks_of c.args.database.now (drop (i + 1) records)) in
    elim c.if-branch.branch [
      | then-branch w ↦ record {
        laid = both.0;
        counted = ap (λ n. n + rest) (w.changed-is ∙ ap (λ b. count + cond b 1 0) (sym w.if-branch.true)) ∙ both.1;
        few = omega (arith, w.changed-is, c.loop-index.invariant.few);
      }
      | else-branch w ↦ record {
        laid = both.0;
        counted = ap (λ n. n + rest) (w.changed-is ∙ (let e : count ≡ count + 0 = omega arith in e) ∙ ap (λ b. count + cond b 1 0) (sym w.if-branch.false)) ∙ both.1;
        few = omega (arith, w.changed-is, c.loop-index.invariant.few);
      }
    ]
