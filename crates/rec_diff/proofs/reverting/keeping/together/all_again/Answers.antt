use Rattle.std.proofs.Common.{◌≡◌, ◌∙◌, ◌<◌, ◌+◌, ◌++◌, ◌∷◌, [], ap, arith, get_or, length, slice_get, Some, subst, sym, take, take_all}
use Rattle.std.specs.List.{AllByRecursion, AllZip}
use Rattle.std.proofs.lemmas.List.{take_more}
use Rattle.std.proofs.lemmas.Option.{get_or_from_slice_get, slice_get-get_or}
use Rattle.rec_diff.specs.declared.reverting.spread.Spread.TheVariants.{Nowhere}
use Rattle.rec_diff.specs.Making.{StaysAmong}
use Rattle.rec_diff.specs.Placed.{PlacedRecord}
use Rattle.rec_diff.specs.proving.Reading.{AreSpreads, IsMadeOf, IsSpread, StaysIn, placed_of}
use Rattle.rec_diff.proofs.lemmas.reverting.ListLemmas.{there, zip_both, zip_length, zip_push}
use Rattle.rec_diff.proofs.lemmas.reverting.TogetherLemmas.{is_again}
use Rattle.rec_diff.proofs.reverting.keeping.together.all_again.Goals as goal

pub loop-spread-preserved : goal.loop-spread-preserved
loop-spread-preserved c =
    let one = c.args.one.now in
    let other = c.args.other.now in
    let numbers = c.args.numbers.now in
    let n = c.loop-spread.number in
    let spreads = c.deref-spread-items.result.now in
    let i = c.loop-spread.spread-index in
    let s = get_or spreads i Nowhere in
    let records = (placed_of one).records in
    record {
      index = let is = c.loop-spread.invariant.index in omega (arith, is);
      made = λ parts turns are numbered.
          let R = IsMadeOf (λ (own its : PlacedRecord). AllByRecursion (StaysAmong parts its.fields) own.fields) (placed_of other).records in
          let told : AreSpreads (StaysIn parts (placed_of other)) (placed_of one) spreads =
          subst (AreSpreads (StaysIn parts (placed_of other)) (placed_of one)) (sym c.deref-spread-items.ensures.value) (c.in_ok-spreads.ensures.stay parts turns are numbered) in
          let lengths = zip_length (λ (r : PlacedRecord) s. IsSpread (StaysIn parts (placed_of other)) r.fields s) records spreads told in
          let is = c.loop-spread.invariant.index in
          let low : n < length records = let more = c.loop-spread-test.true in omega (arith, more, is, lengths) in
          let (own, at) = there records n low in
          let s_at : slice_get spreads n ≡ Some s = ap (slice_get spreads) is ∙ slice_get-get_or spreads i Nowhere c.loop-spread-test.true in
          let made = is_again one other c.requires.own c.requires.other parts turns are numbers numbered n own c.fields_of.result.now s at c.fields_of.ensures
          (zip_both (λ (r : PlacedRecord) s. IsSpread (StaysIn parts (placed_of other)) r.fields s) records spreads n own s told at s_at) in
          subst (AllZip R (take (n + 1) records)) (sym c.in_ok-push.ensures.items)
          (subst (λ l. AllZip R l (c.loop-spread.again.items ++ c.again_in.result ∷ []))
          (sym (take_more records n own low ∙ ap (λ r. take n records ++ r ∷ []) (get_or_from_slice_get records n own own at)))
          (zip_push R (take n records) c.loop-spread.again.items own c.again_in.result (c.loop-spread.invariant.made parts turns are numbered) (subst (R own) (sym c.again_in.ensures) made)));
    }

pub returns : goal.returns
returns c = λ parts turns are numbered.
    let one = c.args.one.now in
    let other = c.args.other.now in
    let spreads = c.deref-spread-items.result.now in
    let records = (placed_of one).records in
    let R = IsMadeOf (λ (own its : PlacedRecord). AllByRecursion (StaysAmong parts its.fields) own.fields) (placed_of other).records in
    let told : AreSpreads (StaysIn parts (placed_of other)) (placed_of one) spreads =
    subst (AreSpreads (StaysIn parts (placed_of other)) (placed_of one)) (sym c.deref-spread-items.ensures.value) (c.in_ok-spreads.ensures.stay parts turns are numbered) in
    let lengths = zip_length (λ (r : PlacedRecord) s. IsSpread (StaysIn parts (placed_of other)) r.fields s) records spreads told in
    let is = c.loop-spread.invariant.index in
    let ends = c.loop-spread-test.false in
    subst (λ l. AllZip R l c.loop-spread.again.items) (take_all c.loop-spread.number records (omega (arith, lengths, is, ends))) (c.loop-spread.invariant.made parts turns are numbered)
