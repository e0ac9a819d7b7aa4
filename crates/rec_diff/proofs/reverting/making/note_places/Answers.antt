use Rattle.std.proofs.Common.{◌≡◌, ◌⊎◌, ◌∷◌, ◌∙◌, ◌+◌, ap, arith, drop, get_or, length, refl, subst, sym}
use Rattle.std.proofs.lemmas.List.{drop_more}
use Rattle.std.proofs.lemmas.Option.{slice_get-get_or}
use Rattle.rec_diff.specs.proving.Making.{AreInPlaceIn, AreLeast, AreSharedBy}
use Rattle.rec_diff.specs.proving.Reading.{placed_of, text_of_reading}
use Rattle.rec_diff.specs.proving.Turns.{AreIn}
use Rattle.rec_diff.proofs.lemmas.reverting.AmongLemmas.{all_places, no_places, no_turn, passed_later, places_more}
use Rattle.rec_diff.proofs.lemmas.reverting.MakingLemmas.{pair_length}
use Rattle.rec_diff.proofs.reverting.making.note_places.Goals as goal

pub loop-turn-init : goal.loop-turn-init
loop-turn-init c =
    let (parts, are) = c.requires.turns in
    record {
      least = λ numbers all. no_places (placed_of c.args.one.now) (placed_of c.args.other.now) numbers c.args.made.now.items c.args.turns.now all;
      length = refl;
      left = (0, 0, are.order, (λ i x low there. absurd (omega (arith, low))), (λ i x low there. absurd (omega (arith, low))));
    }

pub loop-turn-preserved : goal.loop-turn-preserved
loop-turn-preserved c =
    let one = c.args.one.now in
    let other = c.args.other.now in
    let turns = c.args.turns.now in
    let i = c.loop-turn.turn-index in
    let made = c.loop-turn.made.items in
    let t = get_or turns i no_turn in
    let (from, there, are, passed, passed_too) = c.loop-turn.invariant.left in
    let next : AreIn (text_of_reading one) (text_of_reading other) from there (t ∷ drop (i + 1) turns) =
    subst (AreIn (text_of_reading one) (text_of_reading other) from there) (drop_more turns i no_turn c.loop-turn-test.true) are in
    record {
      least = λ numbers all.
          subst (AreLeast (λ r k. AreSharedBy (placed_of one) (placed_of other) numbers r k ⊎ AreInPlaceIn (placed_of one) (placed_of other) (i + 1) turns r k)) (sym c.note_pair.ensures)
          (places_more (placed_of one) (placed_of other) numbers made turns i t c.in_place.result (slice_get-get_or turns i no_turn c.loop-turn-test.true) c.in_place.ensures
          (c.loop-turn.invariant.least numbers all));
      length = ap length c.note_pair.ensures ∙ (pair_length c.in_place.result made ∙ c.loop-turn.invariant.length);
      left = (
        t.end.old,
        t.end.new,
        next.1,
        passed_later (placed_of one) c.pass-old.result t.start.old t.end.old next.0.order_old c.pass-old.ensures.passed,
        passed_later (placed_of other) c.pass-new.result t.start.new t.end.new next.0.order_new c.pass-new.ensures.passed,
      );
    }

pub returns-clause-least : goal.returns-clause-least
returns-clause-least c = λ numbers all.
    let P = placed_of c.args.one.now in
    let Q = placed_of c.args.other.now in
    let turns = c.args.turns.now in
    let ends : c.loop-turn.turn-index ≡ length turns = omega arith in
    all_places P Q numbers c.loop-turn.made.items turns
    (subst (λ n. AreLeast (λ r k. AreSharedBy P Q numbers r k ⊎ AreInPlaceIn P Q n turns r k) c.loop-turn.made.items) ends (c.loop-turn.invariant.least numbers all))
