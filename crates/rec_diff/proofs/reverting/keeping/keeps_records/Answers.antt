use Rattle.std.proofs.Common.{◌≡◌, ◌⊎◌, ◌↔◌, ℕ, Any, Bool, IsTrue, List, Some, slice_get, subst, sym}
use Rattle.std.specs.List.{AllByRecursion}
use Rattle.std.proofs.lemmas.Option.{slice_get_within}
use Rattle.std.proofs.lemmas.Result.{IfOk-weaker}
use Rattle.rec_diff.specs.Changes.{Stretch}
use Rattle.rec_diff.specs.Keeping.{IsKnown, IsPutTogether, IsWhole}
use Rattle.rec_diff.specs.Placed.{PlacedRecord}
use Rattle.rec_diff.specs.proving.Keeping.{AreBeside, AreLed, AreRead, AreThose, HaveNoOther, later_steps}
use Rattle.rec_diff.specs.proving.Reading.{placed_of}
use Rattle.rec_diff.proofs.lemmas.reverting.PlacesKeptLemmas.{known_by}
use Rattle.rec_diff.proofs.reverting.keeping.keeps_records.Goals as goal

pub are_put_together-requires-clause-records : goal.are_put_together-requires-clause-records
are_put_together-requires-clause-records c = λ k any.
    let r = c.args.known.readings.now in
    let (ahead, back, beside) = c.requires.beside in
    let (own, at, none) = (c.in_ok-mixed.ensures ahead back beside).lack k (subst (Any (◌≡◌ k)) c.deref.ensures.value any) in
    slice_get_within (placed_of r.left).records k own at

pub returns-clause-records : goal.returns-clause-records
returns-clause-records c =
    let edits = c.args.edits in
    let known = c.args.known in
    let woven = c.args.woven.now in
    let r = known.readings.now in
    let B = placed_of r.before in
    let A = placed_of r.after in
    let H = placed_of r.here in
    let L = placed_of r.left in
    let numbers = c.deref.result.now in
    IfOk-weaker c.are_put_together.result
    (λ (are : Bool). (left : List ℕ) (change later ahead back : List Stretch) → AreLed edits woven left change later ahead back → AreRead edits left r → AreBeside known ahead back
    → HaveNoOther ahead back B H L → IsTrue are ↔ ((k : ℕ) (own : PlacedRecord) → Any (◌≡◌ k) numbers → slice_get L.records k ≡ Some own
    → IsPutTogether edits.steps.now (later_steps edits) change later ahead back B A H L own))
    (λ (are : Bool). (left : List ℕ) (change later ahead back : List Stretch) → AreLed edits woven left change later ahead back → AreRead edits left r → AreBeside known ahead back
    → HaveNoOther ahead back B H L → IsTrue are ↔ AllByRecursion (IsKnown edits.steps.now (later_steps edits) change later ahead back B A H L) L.records)
    (λ are told left change later ahead back led read beside no_other.
    let H_is = λ (own : PlacedRecord). Any (λ new. IsWhole back new own) H.records in
    let V_is = λ (own : PlacedRecord). Any (λ old. IsWhole ahead old own) B.records in
    known_by H_is V_is (IsPutTogether edits.steps.now (later_steps edits) change later ahead back B A H L) L numbers
    (subst (AreThose (λ own. Any (λ new. IsWhole back new own) H.records ⊎ Any (λ old. IsWhole ahead old own) B.records) L) (sym c.deref.ensures.value) (c.in_ok-mixed.ensures ahead back beside)) are
    (told left change later ahead back led read beside no_other))
    c.are_put_together.ensures.together
