use Rattle.std.proofs.Common.{◌≡◌, length, subst, sym}
use Rattle.std.proofs.Common.{Option, Vec, Global, ℕ}
use Rattle.rec_diff.specs.Making.{IsFirst, Shares}
use Rattle.rec_diff.specs.proving.Keeping.{IsUntouched, later_steps}
use Rattle.rec_diff.specs.proving.Making.{AreLeast, AreSharedBy}
use Rattle.rec_diff.specs.proving.Reading.{AreMade, AreNumbers, AreTurnsOf, placed_of, text_of_reading}
use Rattle.rec_diff.proofs.lemmas.reverting.FoundLemmas.{cuts_alike}
use Rattle.rec_diff.proofs.lemmas.reverting.ListLemmas.{ok_both}
use Rattle.rec_diff.proofs.lemmas.reverting.SharingLemmas.{first_shared}
use Rattle.rec_diff.proofs.lemmas.reverting.MakingLemmas.{made_map}
use Rattle.rec_diff.proofs.lemmas.reverting.PlacesKeptLemmas.{first_alike}
use Rattle.rec_diff.proofs.reverting.keeping.together.untouched.Goals as goal

pub returns : goal.returns
returns c =
    let edits = c.args.edits in
    let after = c.args.readings.now.after in
    let here = c.args.readings.now.here in
    let (left, read) = c.requires.read in
    let (own, own_is, own_are) = c.in_ok-cuts.ensures in
    ok_both c.shared.result (λ (made : Vec (Option ℕ) Global). AreLeast (AreSharedBy (placed_of after) (placed_of here) c.deref-2.result.now) made.items)
    (λ (made : Vec (Option ℕ) Global). length made.items ≡ length (placed_of after).records)
    (λ (made : Vec (Option ℕ) Global). AreMade (IsUntouched edits (placed_of here)) (placed_of after) (placed_of here) made.items) c.shared.ensures.least c.shared.ensures.length
    (λ made least lengths.
    let turned : AreTurnsOf own (text_of_reading after) (text_of_reading here) c.deref.result.now =
    subst (AreTurnsOf own (text_of_reading after) (text_of_reading here)) (sym c.deref.ensures.value)
    (subst (λ t. AreTurnsOf own t (text_of_reading here) c.in_ok-cuts.cuts.items) (sym read.is_after)
    (subst (λ t. AreTurnsOf own edits.after.now t c.in_ok-cuts.cuts.items) (sym read.is_here) own_are)) in
    made_map (λ between. IsFirst (Shares own between) (placed_of here).records) (IsUntouched edits (placed_of here)) (λ between new first. (own, own_is, first))
    (λ between new (parts, is, first). first_alike (cuts_alike (later_steps edits) edits.after.now edits.here.now parts own is own_is) between (placed_of here).records new first) (placed_of after)
    (placed_of here) made.items
    (first_shared after here read.after read.here own c.deref.result.now turned c.deref-2.result.now
    (subst (AreNumbers own (placed_of after) (placed_of here)) (sym c.deref-2.ensures.value) (c.in_ok-numbers.ensures own turned)) made.items lengths least))
