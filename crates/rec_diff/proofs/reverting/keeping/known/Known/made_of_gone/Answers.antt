use Rattle.std.proofs.Common.{◌≡◌, ◌∙◌, ◌+◌, ◌<◌, ◌↔◌, None, Some, true, false, ap, arith, get_or, length, refl, slice_get, subst, sym}
use Rattle.std.proofs.lemmas.Bool.{false≢true}
use Rattle.std.proofs.lemmas.Option.{same_Some, slice_get-get_or}
use Rattle.rec_diff.specs.proving.Keeping.{IsGoneTo, IsOfGoneIn}
use Rattle.rec_diff.specs.proving.Reading.{placed_of}
use Rattle.rec_diff.proofs.lemmas.reverting.KeepingLemmas.{all_gone, gone_more, length-marked}
use Rattle.rec_diff.proofs.reverting.keeping.known.Known.made_of_gone.Goals as goal

pub loop-new-init : goal.loop-new-init
loop-new-init c = record {
  index = refl;
  lengths = c.in_ok-made.ensures.length ∙ c.count.ensures;
  marked = λ j low. (
    λ at. absurd (false≢true (same_Some false true (sym (c.in_ok-made.ensures.each j (subst (λ n. j < n) (sym c.count.ensures) low)) ∙ at))),
    λ (n, m, small, n_at, gone). absurd (omega (arith, small)),
  );
}

pub loop-new-preserved : goal.loop-new-preserved
loop-new-preserved c =
    let r = c.args.self.readings.now in
    let led = c.args.led.now in
    let to_left = c.args.self.before.now.to_left.items in
    let made = c.loop-new.made.items in
    let i = c.loop-new.new-index in
    let new = get_or led i None in
    let one = c.gone_to.result in
    record {
      index = omega arith;
      lengths = ap length c.mark.ensures ∙ (length-marked made one ∙ c.loop-new.invariant.lengths);
      marked = λ j low.
          let is : (one ≡ Some j) ↔ IsGoneTo (placed_of r.before) (placed_of r.here) to_left i new j =
          subst (λ n. (one ≡ Some j) ↔ IsGoneTo (placed_of r.before) (placed_of r.here) to_left n new j) c.loop-new.invariant.index (c.gone_to.ensures j) in
          subst (λ l. (slice_get l j ≡ Some true) ↔ IsOfGoneIn (i + 1) led (placed_of r.before) (placed_of r.here) to_left j) (sym c.mark.ensures)
          (gone_more led (placed_of r.before) (placed_of r.here) to_left i j new made one (slice_get-get_or led i None c.loop-new-test.true)
          (subst (λ n. j < n) (sym c.loop-new.invariant.lengths) low) is
          (c.loop-new.invariant.marked j low));
    }

pub returns : goal.returns
returns c = λ j low.
    let r = c.args.self.readings.now in
    let led = c.args.led.now in
    let to_left = c.args.self.before.now.to_left.items in
    let made = c.loop-new.made.items in
    let ends : c.loop-new.new-index ≡ length led = omega arith in
    all_gone led (placed_of r.before) (placed_of r.here) to_left j made
    (subst (λ n. (slice_get made j ≡ Some true) ↔ IsOfGoneIn n led (placed_of r.before) (placed_of r.here) to_left j) ends (c.loop-new.invariant.marked j low))
