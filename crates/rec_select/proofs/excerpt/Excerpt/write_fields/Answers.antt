use Rattle.std.proofs.Common.{◌≡◌, ◌∙◌, ◌+◌, ap, sym, length, arith}
use Rattle.std.proofs.lemmas.List.{length-map}
use Rattle.rec_text.specs.Places.{piece_of}
use Rattle.rec_select.proofs.lemmas.printing.PutsLemmas.{HasTaken-as, HasTaken-append, HasStopped-within, Prints-stopped, Prints-append, Prints-as}
use Rattle.rec_select.proofs.lemmas.printing.ExcerptLemmas.{no_run, run_whole, last_run, longer_run, whole_run}
use Rattle.rec_select.proofs.excerpt.Excerpt.write_fields.Goals as goal
use Rattle.rec_select.proofs.excerpt.Excerpt.write_fields.Goals.{then-not-is_field+in_ok-write, else-not-is_field}

pub returns-in_err-write-clause-printed : goal.returns-in_err-write-clause-printed
returns-in_err-write-clause-printed g c =
    let whole = run_whole c.args.self.now c.loop-at.start c.loop-at.at c.loop-at.invariant.run c.part.result c.part.ensures in
    Prints-stopped c.from_residual.result c.from_residual.ensures.1 (HasStopped-within _ _ whole c.loop-at.invariant.printed c.in_err-write.ensures.printed)

pub loop-at-preserved : goal.loop-at-preserved
loop-at-preserved g c = elim c.if-not-is_field.branch [
  | then-not-is_field+in_ok-write w ↦
      let whole = whole_run c.args.self.now c.loop-at.start c.loop-at.at c.loop-at.invariant.run c.self.inside.elements.now _ c.self.view_is c.loop-at-test.true w.if-not-is_field.ensures w.part.result
      w.part.ensures in
      rw (w.start-is, w.out-is) (record {
        run = no_run c.args.self.now (c.loop-at.at + 1);
        printed = HasTaken-as whole (HasTaken-append c.loop-at.invariant.printed w.in_ok-write.ensures.printed);
      })
  | else-not-is_field w ↦
      rw (w.start-is, w.out-is) (record {
        run = longer_run c.args.self.now c.loop-at.start c.loop-at.at c.loop-at.invariant.run c.self.inside.elements.now _ c.self.view_is c.loop-at-test.true w.if-not-is_field.ensures;
        printed = c.loop-at.invariant.printed;
      })
]

pub returns-clause-printed : goal.returns-clause-printed
returns-clause-printed g c =
    let size : length c.args.self.now ≡ length c.self.inside.elements.now = ap length (sym c.self.view_is) ∙ length-map c.self.inside.elements.now piece_of in
    let whole = last_run c.args.self.now c.loop-at.start c.loop-at.at c.loop-at.invariant.run c.part-2.result _ c.part-2.ensures (omega (arith, size)) (omega (arith, size)) in
    Prints-as _ _ _ _ whole c.write-2.result (Prints-append c.loop-at.invariant.printed _ _ c.write-2.result c.write-2.ensures.printed)
