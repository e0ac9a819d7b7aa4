use Rattle.std.proofs.Common.{◌≡◌, ◌∙◌, ◌+◌, ◌↔◌, ℕ, None, Some, ap, arith, get_or, length, subst, sym}
use Rattle.std.proofs.lemmas.Option.{slice_get-get_or}
use Rattle.rec_diff.specs.proving.Making.{AreLeast, AreSharedIn, IsSharedBy, pair_of}
use Rattle.rec_diff.specs.proving.Reading.{placed_of}
use Rattle.rec_diff.proofs.lemmas.reverting.AmongLemmas.{all_shared, shared_more}
use Rattle.rec_diff.proofs.lemmas.reverting.MakingLemmas.{pair_length}
use Rattle.rec_diff.proofs.reverting.making.shared.Goals as goal

pub loop-number-preserved : goal.loop-number-preserved
loop-number-preserved c =
    let P = placed_of c.args.one.now in
    let Q = placed_of c.args.other.now in
    let numbers = c.args.numbers.now in
    let made = c.loop-number.made.items in
    let i = c.loop-number.number-index in
    let number = get_or numbers i None in
    let pair = c.shared_by.result in
    let is = c.loop-number.invariant.index in
    let shared : (r k : ℕ) → (pair ≡ Some (pair_of r k)) ↔ IsSharedBy P Q i number r k =
    subst (λ n. (r k : ℕ) → (pair ≡ Some (pair_of r k)) ↔ IsSharedBy P Q n number r k) is c.shared_by.ensures in
    record {
      least =
          subst (AreLeast (AreSharedIn P Q (i + 1) numbers)) (sym c.note_pair.ensures)
          (shared_more P Q numbers made i number pair (slice_get-get_or numbers i None c.loop-number-test.true) shared c.loop-number.invariant.least);
      length = ap length c.note_pair.ensures ∙ (pair_length pair made ∙ c.loop-number.invariant.length);
      index = omega arith;
    }

pub returns-clause-least : goal.returns-clause-least
returns-clause-least c =
    let P = placed_of c.args.one.now in
    let Q = placed_of c.args.other.now in
    let numbers = c.args.numbers.now in
    let made = c.loop-number.made.items in
    let ends : c.loop-number.number-index ≡ length numbers = omega arith in
    all_shared P Q numbers made (subst (λ n. AreLeast (AreSharedIn P Q n numbers) made) ends c.loop-number.invariant.least)
